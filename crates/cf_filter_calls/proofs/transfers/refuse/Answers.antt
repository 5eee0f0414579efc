use Rattle.cf_base.specs.declared.operations.Operation.TheVariants as operation
use Rattle.cf_filter_calls.specs.Operating.{IsLiveFor}
use Rattle.cf_model.specs.Operations.{refuse}
use Rattle.cf_filter_steps.proofs.Laws.{with_err}
use Rattle.cf_filter_calls.proofs.Transferred.{refused_not, refused_on}
use Rattle.cf_filter_calls.proofs.transfers.refuse.Goals as goal

pub returns-in_err-settle : goal.returns-in_err-settle
returns-in_err-settle g c = λ key f records a. with_err g.S.Steps.sense (IsLiveFor f (operation.Refuse key c.args.span c.args.status) c.args.ask.now records a) (refuse a c.args.span c.args.status) c.args.s.now c.settle.new.s c.in_err-settle.field-0.0 c.from_residual.result c.from_residual.ensures.1
    (refused_not g.S.Steps.sense c.args.ask.now c.args.span c.touched_blocks.result c.args.status c.in_err-settle.field-0.0 c.args.s.now c.settle.new.s c.touched_blocks.ensures.blocks c.in_err-settle.ensures key f records a)

pub returns : goal.returns
returns g c = refused_on g.S.Steps.sense c.args.ask.now c.args.span c.touched_blocks.result c.args.status c.in_ok-settle.field-0 c.args.s.now c.settle.new.s c.touched_blocks.ensures.blocks c.in_ok-settle.ensures
