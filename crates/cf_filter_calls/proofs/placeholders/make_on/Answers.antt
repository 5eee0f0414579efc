use Rattle.cf_model.specs.Calls.{number_of}
use Rattle.cf_model.specs.Placements.{planned_on}
use Rattle.cf_filter_steps.specs.Suiting.{Suiting}
use Rattle.cf_filter_steps.proofs.Laws.{with_err}
use Rattle.cf_filter_steps.proofs.MakingRoom.{made_fails}
use Rattle.cf_filter_calls.proofs.Carried.{made_done, numbered}
use Rattle.cf_filter_calls.proofs.placeholders.make_on.Goals as goal

pub returns-in_err-code : goal.returns-in_err-code
returns-in_err-code g c = with_err g.S.Steps.sense (Suiting c.args.changes.now) (planned_on c.args.id c.args.changes.now) c.args.s.now c.change_all.new.s c.in_err-code.field-0.0 c.from_residual.result c.from_residual.ensures.1
    (made_fails g.S.Steps.sense c.args.changes.now (number_of c.args.id) c.args.s.now c.change_all.new.s c.in_err-code.field-0.0 c.in_err-code.ensures)

pub returns-in-None : goal.returns-in-None
returns-in-None g c = made_done g.S.Steps.sense c.args.changes.now (number_of c.args.id) c.in_ok-code.field-0 c.args.s.now c.change_all.new.s c.change_all.new.s _ c.in_ok-code.ensures c.in-None.is
    (numbered g.S.Steps.sense c.args.id c.number_at.result c.change_all.new.s c.number_at.ensures)
