use Rattle.cf_engine_feed.specs.Indexed.{indexed}
use Rattle.std.proofs.Common.{Bool, drop}
use Rattle.std.specs.Prelude.{Result}
use Rattle.cf_base.specs.declared.codes.CallError.{CallError}
use Rattle.cf_engine_feed_plan.specs.Turns.{do_steps}
use Rattle.cf_engine_steps.specs.Answering.{Answers, Any}
use Rattle.cf_engine_steps.specs.States.{whole}
use Rattle.cf_engine_feed.proofs.step_runs.do_steps.Given as goal

-- what the steps that are left answer all answer
abbrev pub invariant-loop-step : goal.invariant-loop-step
invariant-loop-step g l = (r : Result Bool CallError) (u : _)
    → Answers (indexed (whole g.S.Steps.sense g.R.Remote.told)) Any (do_steps (drop l.step-index l.steps)) ((l.s, l.e), l.targets) r u → Answers (indexed (whole g.S.Steps.sense g.R.Remote.told)) Any (do_steps l.steps) ((l.fn.s, l.fn.e), l.fn.targets) r u
