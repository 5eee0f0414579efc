use Rattle.cf_engine_space.proofs.Fronts.{all, chosen_more, enough}
use Rattle.cf_engine_space.proofs.candidates.front.Goals as goal

pub returns-then-left-budget : goal.returns-then-left-budget
returns-then-left-budget c = enough c.args.candidates.now c.args.used c.args.budget c.loop-candidate.left c.loop-candidate.candidate-index c.loop-candidate.chosen.items c.loop-candidate.invariant c.if-left-budget.true

pub loop-candidate-preserved : goal.loop-candidate-preserved
loop-candidate-preserved c = chosen_more c.args.candidates.now c.args.used c.args.budget c.loop-candidate.left c.loop-candidate.candidate-index c.loop-candidate.chosen.items c.loop-candidate.invariant _ c.push.new.self.items c.saturating_sub-left.result c.loop-candidate-test.true c.if-left-budget.false c.in_ok-push.ensures.items c.saturating_sub-left.ensures

pub returns : goal.returns
returns c = all c.args.candidates.now c.args.used c.args.budget c.loop-candidate.left c.loop-candidate.candidate-index c.loop-candidate.chosen.items c.loop-candidate.invariant c.loop-candidate-test.false
