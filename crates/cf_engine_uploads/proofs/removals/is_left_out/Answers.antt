use Rattle.cf_engine_queue.specs.Books.{tombstone_value}
use Rattle.cf_engine_uploads.proofs.Removed.{tombstone_left_out}
use Rattle.cf_model.specs.PushReplies.{has_number}
use Rattle.cf_model.specs.State.{Volatile}
use Rattle.std.proofs.Common.{ap, ◌∙◌}
use Rattle.cf_engine_uploads.proofs.removals.is_left_out.Goals as goal

pub returns : goal.returns
returns g c = tombstone_left_out g.S.Steps.sense g.R.Remote.told c.args.s.now c.args.e.now (tombstone_value c.args.one.now) _ c.any_of.result c.is_of-there.result c.has_target_entry-sent.result c.holds_tombstone-held.result c.any_of.ensures c.in_ok-found.ensures c.is_of-there.ensures c.has_target_entry-sent.ensures (c.holds_tombstone-held.ensures ∙ ap (λ (v : Volatile). has_number v.held_tombstones c.args.one.now.number) c.volatile.ensures)
