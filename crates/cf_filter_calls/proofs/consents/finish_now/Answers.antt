use Rattle.cf_base.specs.declared.answers.Shown.TheVariants as shown
use Rattle.cf_filter_calls.specs.Consenting.{finished_now}
use Rattle.cf_model.specs.Operations.{done}
use Rattle.cf_model.specs.Requests.{Finishes}
use Rattle.cf_model.specs.Settling.{settle}
use Rattle.cf_filter_steps.specs.Answering.{Any}
use Rattle.cf_filter_steps.proofs.Laws.{any_on, returned, stops_first, with_err}
use Rattle.cf_filter_calls.proofs.consents.finish_now.Goals as goal

pub returns-in_err-settle : goal.returns-in_err-settle
returns-in_err-settle g c = with_err g.S.Steps.sense Any (finished_now c.args.ask.now c.args.cause) c.args.s.now c.settle.new.s c.in_err-settle.field-0.0 c.from_residual.result c.from_residual.ensures.1
    (stops_first g.S.Steps.sense Any (settle c.args.ask.now.item (Finishes c.args.ask.now.key c.args.cause)) done c.args.s.now c.settle.new.s c.in_err-settle.field-0.0 c.in_err-settle.ensures)

pub returns : goal.returns
returns g c = any_on g.S.Steps.sense (settle c.args.ask.now.item (Finishes c.args.ask.now.key c.args.cause)) done c.args.s.now c.settle.new.s c.settle.new.s c.in_ok-settle.field-0 _ c.in_ok-settle.ensures (returned g.S.Steps.sense Any shown.Done c.settle.new.s)
