use Rattle.cf_engine_feed.specs.Indexed.{indexed}
use Rattle.cf_engine_steps.specs.Answering.{Any}
use Rattle.cf_engine_steps.specs.States.{whole}
use Rattle.cf_engine_feed_plan.specs.Turns.{do_steps}
use Rattle.cf_engine_steps.proofs.Laws.{with_err}
use Rattle.cf_engine_feed.proofs.StepRuns.{steps_end, steps_fail, steps_more, steps_off}
use Rattle.std.specs.Prelude.{Ok, Err, true, false}
use Rattle.cf_engine_feed.proofs.step_runs.do_steps.Goals as goal

pub returns-in_err-done : goal.returns-in_err-done
returns-in_err-done g c = with_err (indexed (whole g.S.Steps.sense g.R.Remote.told)) Any (do_steps c.args.steps.now) ((c.args.s.now, c.args.e.now), c.args.targets.now) ((c.do_indexed.new.s, c.do_indexed.new.e), c.do_indexed.new.targets) c.in_err-done.field-0.0 c.from_residual.result c.from_residual.ensures.1
    (c.loop-step.invariant (Err c.in_err-done.field-0.0) ((c.do_indexed.new.s, c.do_indexed.new.e), c.do_indexed.new.targets)
    (steps_fail (indexed (whole g.S.Steps.sense g.R.Remote.told)) c.args.steps.now c.loop-step.step-index c.step-item.result ((c.loop-step.s, c.loop-step.e), c.loop-step.targets) ((c.do_indexed.new.s, c.do_indexed.new.e), c.do_indexed.new.targets) c.in_err-done.field-0.0 c.loop-step-test.true c.step-item.is c.in_err-done.ensures))

pub returns-then-not-done : goal.returns-then-not-done
returns-then-not-done g c = c.loop-step.invariant (Ok false) ((c.do_indexed.new.s, c.do_indexed.new.e), c.do_indexed.new.targets)
    (steps_off (indexed (whole g.S.Steps.sense g.R.Remote.told)) c.args.steps.now c.loop-step.step-index c.step-item.result ((c.loop-step.s, c.loop-step.e), c.loop-step.targets) ((c.do_indexed.new.s, c.do_indexed.new.e), c.do_indexed.new.targets) c.in_ok-done.done c.loop-step-test.true c.step-item.is c.in_ok-done.ensures c.if-not-done.true)

pub loop-step-preserved : goal.loop-step-preserved
loop-step-preserved g c = λ r u d. c.loop-step.invariant r u
    (steps_more (indexed (whole g.S.Steps.sense g.R.Remote.told)) c.args.steps.now c.loop-step.step-index c.step-item.result ((c.loop-step.s, c.loop-step.e), c.loop-step.targets) ((c.do_indexed.new.s, c.do_indexed.new.e), c.do_indexed.new.targets) u c.in_ok-done.done r c.loop-step-test.true c.step-item.is c.in_ok-done.ensures c.if-not-done.false d)

pub returns : goal.returns
returns g c = c.loop-step.invariant (Ok true) ((c.loop-step.s, c.loop-step.e), c.loop-step.targets) (steps_end (indexed (whole g.S.Steps.sense g.R.Remote.told)) c.args.steps.now c.loop-step.step-index ((c.loop-step.s, c.loop-step.e), c.loop-step.targets) c.loop-step-test.false)
