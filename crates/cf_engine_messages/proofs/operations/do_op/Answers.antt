use Rattle.cf_engine_steps.specs.Answering.{Any}
use Rattle.cf_engine_steps.specs.States.{whole}
use Rattle.cf_engine_steps.proofs.Laws.{with_err}
use Rattle.cf_engine_messages.proofs.Operated.{did_op, op_fails}
use Rattle.cf_model.specs.Fetching.{do_op, nothing_more}
use Rattle.cf_engine_messages.proofs.operations.do_op.Goals as goal

pub returns-in_err-shown : goal.returns-in_err-shown
returns-in_err-shown g c = with_err (whole g.S.Steps.sense g.R.Remote.told) Any (do_op c.args.op.now) (c.args.s.now, c.args.e.now) (c.execute.new.s, c.args.e.now) c.in_err-shown.field-0.0 c.from_residual.result c.from_residual.ensures.1
    (op_fails g.S.Steps.sense g.R.Remote.told c.args.op.now nothing_more c.args.s.now c.execute.new.s c.args.e.now c.in_err-shown.field-0.0 c.in_err-shown.ensures)

pub returns : goal.returns
returns g c = did_op g.S.Steps.sense g.R.Remote.told c.args.op.now c.args.s.now c.execute.new.s c.args.e.now c.in_ok-shown.shown c.in_ok-shown.ensures
