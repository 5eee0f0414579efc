use Rattle.cf_engine_passes.proofs.Synced.{Rest}
use Rattle.cf_engine_steps.specs.States.{whole}
use Rattle.cf_engine_passes.proofs.syncs.passes.Given as goal

-- what the passes that are left answer all answer
abbrev pub invariant-loop-made : goal.invariant-loop-made
invariant-loop-made g l = Rest (whole g.S.Steps.sense g.R.Remote.told) l.things (l.fn.s, l.fn.e) l.made (l.s, l.e)
