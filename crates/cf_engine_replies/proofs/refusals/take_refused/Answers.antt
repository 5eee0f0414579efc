use Rattle.cf_engine_queue.specs.Books.{entry_value}
use Rattle.cf_engine_replies.specs.Refusals.{held_refused}
use Rattle.cf_model.specs.PushReplies.{end_entry}
use Rattle.cf_engine_steps.proofs.Laws.{then_both}
use Rattle.cf_engine_replies.proofs.Parts.{stops_by}
use Rattle.cf_engine_replies.proofs.refusals.take_refused.Goals as goal

pub returns-in_err-end_entry : goal.returns-in_err-end_entry
returns-in_err-end_entry g c = stops_by _ (end_entry (entry_value c.args.entry.now)) (held_refused (entry_value c.args.entry.now) c.args.why) _ _ _ _ c.from_residual.ensures.1 c.in_err-end_entry.ensures

pub returns : goal.returns
returns g c = then_both _ (end_entry (entry_value c.args.entry.now)) (held_refused (entry_value c.args.entry.now) c.args.why) _ _ _ _ _ _ _ _ c.in_ok-end_entry.ensures c.hold_back.ensures
