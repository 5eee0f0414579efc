use Rattle.cf_filter_calls.proofs.Executed.{check_err, check_ok, check_reads}
use Rattle.cf_filter_calls.proofs.operations.refuse_op.Goals as goal

pub returns-in-Ok : goal.returns-in-Ok
returns-in-Ok g c = check_ok g.S.Steps.sense c.args.s.now c.args.op.now c.check.result _
    (check_reads g.S.Steps.sense c.args.s.now c.args.op.now c.key_of.result c.base_named-base.result c.requests.result.now c.check.result c.key_of.ensures c.base_named-base.ensures c.requests.ensures.means c.check.ensures) c.in-Ok.is

pub returns-in-Err : goal.returns-in-Err
returns-in-Err g c = check_err g.S.Steps.sense c.args.s.now c.args.op.now c.check.result c.in-Err.code
    (check_reads g.S.Steps.sense c.args.s.now c.args.op.now c.key_of.result c.base_named-base.result c.requests.result.now c.check.result c.key_of.ensures c.base_named-base.ensures c.requests.ensures.means c.check.ensures) c.in-Err.is
