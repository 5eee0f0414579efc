use Rattle.cf_engine_queue.specs.Books.{entry_value}
use Rattle.cf_engine_steps.specs.Answering.{Any}
use Rattle.cf_model.specs.Arrows.{then_do}
use Rattle.cf_model.specs.PushReplies.{drop_if, is_removal, not_in_row, reset_cursor}
use Rattle.cf_model.specs.Skips.{in_volatile}
use Rattle.cf_engine_steps.proofs.Laws.{then_both}
use Rattle.cf_engine_steps.proofs.Noted.{noted_volatile}
use Rattle.cf_engine_replies.proofs.Parts.{stops_by}
use Rattle.cf_engine_replies.proofs.refused_again.lost_place.Goals as goal

pub returns-in_err-reset_cursor : goal.returns-in_err-reset_cursor
returns-in_err-reset_cursor g c = then_both _ (in_volatile (not_in_row (entry_value c.args.entry.now))) (then_do reset_cursor (drop_if (is_removal (entry_value c.args.entry.now)) (entry_value c.args.entry.now))) _ _ _ _ _ _ _ _ (noted_volatile g.S.Steps.sense g.R.Remote.told Any c.args.s.now c.args.e.now c.leave_row.new.self (not_in_row (entry_value c.args.entry.now)) c.leave_row.ensures)
    (stops_by _ reset_cursor (drop_if (is_removal (entry_value c.args.entry.now)) (entry_value c.args.entry.now)) _ _ _ _ c.from_residual.ensures.1 c.in_err-reset_cursor.ensures)

pub returns : goal.returns
returns g c = then_both _ (in_volatile (not_in_row (entry_value c.args.entry.now))) (then_do reset_cursor (drop_if (is_removal (entry_value c.args.entry.now)) (entry_value c.args.entry.now))) _ _ _ _ _ _ _ _ (noted_volatile g.S.Steps.sense g.R.Remote.told Any c.args.s.now c.args.e.now c.leave_row.new.self (not_in_row (entry_value c.args.entry.now)) c.leave_row.ensures)
    (then_both _ reset_cursor (drop_if (is_removal (entry_value c.args.entry.now)) (entry_value c.args.entry.now)) _ _ _ _ _ _ _ _ c.in_ok-reset_cursor.ensures c.drop_removal.ensures)
