use Rattle.cf_model.specs.Calls.{change_all}
use Rattle.cf_model.specs.Operations.{done}
use Rattle.cf_base.specs.declared.answers.Shown.TheVariants as shown
use Rattle.cf_filter_steps.specs.Answering.{Any}
use Rattle.cf_filter_steps.specs.Suiting.{Suiting}
use Rattle.cf_filter_steps.proofs.Laws.{returned, with_err}
use Rattle.cf_filter_steps.proofs.MakingRoom.{made_fails}
use Rattle.cf_filter_calls.proofs.Carried.{made_done}
use Rattle.cf_filter_calls.proofs.pins.make_all.Goals as goal

pub returns-in_err-code : goal.returns-in_err-code
returns-in_err-code g c = with_err g.S.Steps.sense (Suiting c.args.changes.now) (change_all c.args.changes.now) c.args.s.now c.change_all.new.s c.in_err-code.field-0.0 c.from_residual.result c.from_residual.ensures.1
    (made_fails g.S.Steps.sense c.args.changes.now done c.args.s.now c.change_all.new.s c.in_err-code.field-0.0 c.in_err-code.ensures)

pub returns-in-None : goal.returns-in-None
returns-in-None g c = made_done g.S.Steps.sense c.args.changes.now done c.in_ok-code.field-0 c.args.s.now c.change_all.new.s c.change_all.new.s _ c.in_ok-code.ensures c.in-None.is (returned g.S.Steps.sense Any shown.Done c.change_all.new.s)
