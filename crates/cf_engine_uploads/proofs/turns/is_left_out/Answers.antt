use Rattle.cf_engine_uploads.proofs.Turned.{left_out_by}
use Rattle.cf_model.specs.PushReplies.{has_item}
use Rattle.cf_model.specs.State.{Volatile}
use Rattle.std.proofs.Common.{ap, ◌∙◌}
use Rattle.cf_engine_uploads.proofs.turns.is_left_out.Goals as goal

pub returns : goal.returns
returns g c = left_out_by g.S.Steps.sense g.R.Remote.told c.args.s.now c.args.e.now c.rows.result.now c.args.row.now c.any_of.result c.has_entry-sent.result c.holds_item-held.result c.is_excluded-excluded.result c.in_ok-parent.parent c.rows.ensures.means c.any_of.ensures c.has_entry-sent.ensures (c.holds_item-held.ensures ∙ ap (λ (v : Volatile). has_item v.held_items c.args.row.now.id) c.volatile.ensures) c.is_excluded-excluded.ensures c.in_ok-parent.ensures
