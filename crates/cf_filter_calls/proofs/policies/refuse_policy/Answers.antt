use Rattle.cf_base.specs.Policies.{is_allowed}
use Rattle.cf_filter_calls.proofs.Policed.{bad_by, refused_by}
use Rattle.cf_filter_calls.proofs.policies.refuse_policy.Goals as goal

pub returns : goal.returns
returns g c = refused_by g.S.Steps.sense c.args.mode c.args.policy.now c.is_err-bad.result c.is_idle-idle.result c.is_always_population-always.result c.has_unlisted-unlisted.result c.policy_code.result c.args.s.now
    (bad_by c.check-checked.result (is_allowed c.args.mode c.args.policy.now) c.is_err-bad.result c.check-checked.ensures.ok c.check-checked.ensures.bad c.is_err-bad.ensures.value) c.is_idle-idle.ensures c.is_always_population-always.ensures c.has_unlisted-unlisted.ensures c.policy_code.ensures
