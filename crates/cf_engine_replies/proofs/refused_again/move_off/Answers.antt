use Rattle.std.proofs.Common.{sym, ap, ◌∙◌}
use Rattle.std.specs.Prelude.{option_copied}
use Rattle.cf_engine_queue.specs.Books.{entry_value}
use Rattle.cf_engine_steps.specs.Answering.{Any}
use Rattle.cf_engine_steps.specs.States.{whole}
use Rattle.cf_engine_replies.specs.Refusals.{moved_off}
use Rattle.cf_engine_steps.proofs.Laws.{with_err}
use Rattle.cf_engine_replies.proofs.Replied.{moved, none_moved, not_moved}
use Rattle.cf_engine_replies.proofs.refused_again.move_off.Goals as goal

pub returns-in_default : goal.returns-in_default
returns-in_default g c = none_moved g.S.Steps.sense g.R.Remote.told (entry_value c.args.entry.now) c.rows.result.now c.args.s.now c.args.e.now c.rows.ensures.means (sym c.get.ensures ∙ ap option_copied c.in_default.is)

pub returns-in_err-to_conflict : goal.returns-in_err-to_conflict
returns-in_err-to_conflict g c = with_err (whole g.S.Steps.sense g.R.Remote.told) Any (moved_off (entry_value c.args.entry.now)) (c.args.s.now, c.args.e.now) (c.to_conflict.new.s, c.to_conflict.new.e) c.in_err-to_conflict.field-0.0 c.from_residual.result c.from_residual.ensures.1
    (not_moved g.S.Steps.sense g.R.Remote.told (entry_value c.args.entry.now) c.rows.result.now c.args.s.now c.to_conflict.new.s c.args.e.now c.to_conflict.new.e c.rows.ensures.means c.in-Some.field-0.now c.in_err-to_conflict.field-0.0 (sym c.get.ensures ∙ ap option_copied c.in-Some.is) c.in_err-to_conflict.ensures)

pub returns : goal.returns
returns g c = moved g.S.Steps.sense g.R.Remote.told (entry_value c.args.entry.now) c.rows.result.now c.args.s.now c.to_conflict.new.s c.args.e.now c.to_conflict.new.e c.rows.ensures.means c.in-Some.field-0.now c.in_ok-to_conflict.field-0 (sym c.get.ensures ∙ ap option_copied c.in-Some.is) c.in_ok-to_conflict.ensures
