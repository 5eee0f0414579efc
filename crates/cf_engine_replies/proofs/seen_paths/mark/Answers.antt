use Rattle.cf_engine_steps.specs.Answering.{Any}
use Rattle.cf_engine_steps.specs.States.{whole}
use Rattle.cf_model.specs.PushReplies.{whatever}
use Rattle.cf_model.specs.Skips.{try_mark}
use Rattle.cf_engine_replies.proofs.Parts.{fails_by, whatever_done}
use Rattle.cf_engine_replies.proofs.seen_paths.mark.Goals as goal

pub returns-in_err-try_mark : goal.returns-in_err-try_mark
returns-in_err-try_mark g c = fails_by _ (try_mark c.args.entry.now.item c.args.entry.now.number) whatever _ _ _ _ c.from_residual.ensures.1 c.in_err-try_mark.ensures

pub returns : goal.returns
returns g c = whatever_done (whole g.S.Steps.sense g.R.Remote.told) Any (try_mark c.args.entry.now.item c.args.entry.now.number) _ _ _ c.in_ok-try_mark.ensures
