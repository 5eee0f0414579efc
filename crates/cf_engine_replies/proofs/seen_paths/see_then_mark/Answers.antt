use Rattle.cf_engine_queue.specs.Books.{entry_value}
use Rattle.cf_engine_steps.specs.Answering.{Any}
use Rattle.cf_engine_steps.specs.States.{whole}
use Rattle.cf_engine_replies.specs.Marks.{seen_and_marked}
use Rattle.cf_model.specs.PushReplies.{whatever}
use Rattle.cf_engine_replies.proofs.Parts.{fails_by, whatever_done}
use Rattle.cf_engine_replies.proofs.seen_paths.see_then_mark.Goals as goal

pub returns-in_err-see_then_try : goal.returns-in_err-see_then_try
returns-in_err-see_then_try g c = fails_by _ (seen_and_marked (entry_value c.args.entry.now)) whatever _ _ _ _ c.from_residual.ensures.1 c.in_err-see_then_try.ensures

pub returns : goal.returns
returns g c = whatever_done (whole g.S.Steps.sense g.R.Remote.told) Any (seen_and_marked (entry_value c.args.entry.now)) _ _ _ c.in_ok-see_then_try.ensures
