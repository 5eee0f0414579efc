use Rattle.cf_engine_steps.proofs.removals.check.Goals as goal

pub returns-then-branch : goal.returns-then-branch
returns-then-branch g c = c.in_ok-may_go.ensures.goes c.if-branch.true
