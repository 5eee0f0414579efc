use Rattle.cf_filter_calls.proofs.Policed.{policy_off, policy_on}
use Rattle.cf_filter_calls.proofs.policies.set_policy.Goals as goal

pub returns-in-Some : goal.returns-in-Some
returns-in-Some g c = policy_off g.S.Steps.sense c.args.mode c.args.policy.now c.refuse_policy.result c.in-Some.code c.args.s.now c.refuse_policy.ensures c.in-Some.is

pub returns-in-None : goal.returns-in-None
returns-in-None g c = policy_on g.S.Steps.sense c.args.mode c.args.policy.now c.refuse_policy.result c.args.s.now c.set_policy.new.self c.refuse_policy.ensures c.in-None.is c.set_policy.ensures
