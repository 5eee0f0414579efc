use Rattle.cf_engine_queue.specs.Books.{entry_value}
use Rattle.cf_engine_replies.specs.Removals.{removal_ended}
use Rattle.cf_model.specs.PushReplies.{take}
use Rattle.cf_engine_steps.proofs.Laws.{then_both}
use Rattle.cf_engine_replies.proofs.Parts.{stops_by}
use Rattle.cf_engine_replies.proofs.removals.done_removal.Goals as goal

pub returns-in_err-take : goal.returns-in_err-take
returns-in_err-take g c = stops_by _ (take (entry_value c.args.entry.now)) (removal_ended (entry_value c.args.entry.now)) _ _ _ _ c.from_residual.ensures.1 c.in_err-take.ensures

pub returns : goal.returns
returns g c = then_both _ (take (entry_value c.args.entry.now)) (removal_ended (entry_value c.args.entry.now)) _ _ _ _ _ _ _ _ c.in_ok-take.ensures c.end_removal.ensures
