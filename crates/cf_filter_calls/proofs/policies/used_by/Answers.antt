use Rattle.cf_filter_calls.proofs.Policed.{told_access}
use Rattle.cf_filter_calls.proofs.policies.used_by.Goals as goal

pub returns : goal.returns
returns g c = told_access g.S.Steps.sense c.args.id c.last_access-clock.result c.args.s.now c.last_access-clock.ensures
