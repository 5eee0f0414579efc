use Rattle.cf_engine_queue.specs.Books.{entry_value}
use Rattle.cf_engine_replies.specs.Marks.{see_then_mark}
use Rattle.cf_model.specs.PushReplies.{take}
use Rattle.cf_engine_steps.proofs.Laws.{then_both}
use Rattle.cf_engine_replies.proofs.Parts.{stops_by}
use Rattle.cf_engine_replies.proofs.done.done_move.Goals as goal

pub returns-in_err-take : goal.returns-in_err-take
returns-in_err-take g c = stops_by _ (take (entry_value c.args.entry.now)) (see_then_mark (entry_value c.args.entry.now)) _ _ _ _ c.from_residual.ensures.1 c.in_err-take.ensures

pub returns : goal.returns
returns g c = then_both _ (take (entry_value c.args.entry.now)) (see_then_mark (entry_value c.args.entry.now)) _ _ _ _ _ _ _ _ c.in_ok-take.ensures c.see_then_mark.ensures
