use Rattle.cf_engine_queue.specs.Books.{entry_value}
use Rattle.cf_engine_steps.specs.Answering.{Any}
use Rattle.cf_model.specs.PushReplies.{end_entry, taken_from_row}
use Rattle.cf_model.specs.Skips.{in_volatile}
use Rattle.cf_engine_steps.proofs.Laws.{then_both}
use Rattle.cf_engine_steps.proofs.Noted.{noted_volatile}
use Rattle.cf_engine_replies.proofs.Parts.{stops_by}
use Rattle.cf_engine_replies.proofs.entries.end_and_close.Goals as goal

pub returns-in_err-end_entry : goal.returns-in_err-end_entry
returns-in_err-end_entry g c = stops_by _ (end_entry (entry_value c.args.entry.now)) (in_volatile (taken_from_row (entry_value c.args.entry.now))) _ _ _ _ c.from_residual.ensures.1 c.in_err-end_entry.ensures

pub returns : goal.returns
returns g c = then_both _ (end_entry (entry_value c.args.entry.now)) (in_volatile (taken_from_row (entry_value c.args.entry.now))) _ _ _ _ _ _ _ _ c.in_ok-end_entry.ensures
    (noted_volatile g.S.Steps.sense g.R.Remote.told Any c.end_entry.new.s c.end_entry.new.e c.take_from_row.new.self (taken_from_row (entry_value c.args.entry.now)) c.take_from_row.ensures)
