use Rattle.cf_engine_space.proofs.Freed.{denied, not_denied}
use Rattle.cf_engine_space.proofs.spaces.space.Goals as goal

pub returns-then-not-policy : goal.returns-then-not-policy
returns-then-not-policy g c = denied g.S.Steps.sense g.R.Remote.told c.args.s.now c.args.e.now c.args.blocks c.policy.result c.policy.ensures c.if-not-policy.true

pub returns : goal.returns
returns g c = not_denied g.S.Steps.sense g.R.Remote.told c.args.s.now c.args.e.now c.args.blocks c.policy.result c.policy.ensures c.allowed.new.s c.allowed.new.e c.allowed.result c.if-not-policy.false c.allowed.ensures
