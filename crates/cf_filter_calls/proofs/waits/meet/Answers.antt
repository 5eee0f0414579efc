use Rattle.cf_filter_steps.specs.Needing.{meant}
use Rattle.cf_filter_calls.proofs.Begun.{met_not, met_now}
use Rattle.cf_filter_calls.proofs.waits.meet.Goals as goal

pub returns-then-met : goal.returns-then-met
returns-then-met g c = met_now g.S.Steps.sense (meant c.args.need.now) c.in_ok-met.met c.args.s.now c.answer_now.new.s c.answer_now.result c.in_ok-met.ensures c.if-met.true c.answer_now.ensures

pub returns-else-met : goal.returns-else-met
returns-else-met g c = met_not g.S.Steps.sense (meant c.args.need.now) c.in_ok-met.met c.args.s.now c.begin.new.s c.begin.result c.in_ok-met.ensures c.if-met.false c.begin.ensures
