use Rattle.cf_engine_space.proofs.Eligible.{leaves, stays}
use Rattle.cf_engine_space.proofs.eligible_files.eligible.Goals as goal

pub returns-then-not-may_leave : goal.returns-then-not-may_leave
returns-then-not-may_leave g c = stays g.S.Steps.sense c.args.s.now c.args.policy.now c.args.row.now c.is_used-used.result c.may_leave.result c.is_used-used.ensures c.may_leave.ensures c.args.blocks c.if-not-may_leave.true

pub returns : goal.returns
returns g c = leaves g.S.Steps.sense c.args.s.now c.args.policy.now c.args.row.now c.is_used-used.result c.may_leave.result c.is_used-used.ensures c.may_leave.ensures c.args.blocks c.last_access.result c.if-not-may_leave.false c.last_access.ensures
