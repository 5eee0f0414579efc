use Rattle.cf_filter_calls.proofs.Suited.{not_false}
use Rattle.cf_filter_calls.proofs.Transferred.{restart_on}
use Rattle.cf_filter_calls.proofs.transfers.restart.Goals as goal

pub returns : goal.returns
returns g c = restart_on g.S.Steps.sense c.args.ask.now c.policy-policy.result c.size_at-size.result c.args.s.now c.restart_now.new.s c.restart_now.result c.policy-policy.ensures (not_false c.policy-policy.result.restart c.if-not-policy.false) c.size_at-size.ensures c.restart_now.ensures
