use Rattle.std.proofs.Common.{◌+◌, ◌*◌, ◌∙◌, sym}
use Rattle.cf_scrub.proofs.BlockSteps.{next_is, touches_is}
use Rattle.cf_scrub.proofs.blocks.touches.Goals as goal

pub returns-in-None : goal.returns-in-None
returns-in-None c = sym (touches_is c.args.runs.now c.args.block ∙ c.in-None.ensures (4096 * c.args.block + 1))

pub returns-in-Some : goal.returns-in-Some
returns-in-Some c = sym (touches_is c.args.runs.now c.args.block ∙ c.in-Some.ensures.last (4096 * c.args.block + 1) ∙ next_is _ _)
