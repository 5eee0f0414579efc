use Rattle.cf_filter_calls.specs.Operating.{retrieved}
use Rattle.cf_filter_steps.specs.Putting.{IsHere}
use Rattle.cf_filter_steps.proofs.Laws.{with_err}
use Rattle.cf_filter_calls.proofs.Retrieved.{retrieve_fails, retrieved_on, settle_fails}
use Rattle.cf_filter_calls.proofs.retrievals.retrieve_now.Goals as goal

pub returns-in_err-bytes : goal.returns-in_err-bytes
returns-in_err-bytes g c = with_err g.S.Steps.sense (IsHere c.args.ask.now.item c.args.span) (retrieved c.args.ask.now c.args.span) c.args.s.now c.retrieve.new.self c.in_err-bytes.field-0.0 c.from_residual.result c.from_residual.ensures.1
    (retrieve_fails g.S.Steps.sense c.args.ask.now c.args.span c.in_err-bytes.field-0.0 c.args.s.now c.retrieve.new.self c.in_err-bytes.ensures.does)

pub returns-in_err-settle : goal.returns-in_err-settle
returns-in_err-settle g c = with_err g.S.Steps.sense (IsHere c.args.ask.now.item c.args.span) (retrieved c.args.ask.now c.args.span) c.args.s.now c.settle.new.s c.in_err-settle.field-0.0 c.from_residual-in_err-settle.result c.from_residual-in_err-settle.ensures.1
    (settle_fails g.S.Steps.sense c.args.ask.now c.args.span _ c.in_err-settle.field-0.0 c.args.s.now c.retrieve.new.self c.settle.new.s c.in_ok-bytes.ensures.does c.in_err-settle.ensures)

pub returns : goal.returns
returns g c = retrieved_on g.S.Steps.sense c.args.ask.now c.args.span c.in_ok-bytes.bytes c.in_ok-settle.field-0 c.args.s.now c.retrieve.new.self c.settle.new.s c.in_ok-bytes.ensures.does c.in_ok-bytes.ensures.tells c.in_ok-settle.ensures
