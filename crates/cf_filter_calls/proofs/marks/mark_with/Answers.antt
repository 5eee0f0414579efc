use Rattle.cf_model.specs.Calls.{number_of}
use Rattle.cf_filter_calls.specs.Asking.{Flagging}
use Rattle.cf_model.specs.Placements.{asking}
use Rattle.cf_filter_steps.proofs.Laws.{with_err}
use Rattle.cf_filter_calls.proofs.Asked.{asked_done, asked_fails}
use Rattle.cf_filter_calls.proofs.Carried.{numbered}
use Rattle.cf_filter_calls.proofs.marks.mark_with.Goals as goal

pub returns-in_err-code : goal.returns-in_err-code
returns-in_err-code g c = with_err g.S.Steps.sense (Flagging c.args.id c.args.changes.now) (asking c.args.id (number_of c.args.id) c.args.changes.now) c.args.s.now c.ask_on.new.s c.in_err-code.field-0.0 c.from_residual.result c.from_residual.ensures.1
    (asked_fails g.S.Steps.sense c.args.id c.args.changes.now (number_of c.args.id) c.args.s.now c.ask_on.new.s c.in_err-code.field-0.0 c.in_err-code.ensures)

pub returns-in-None : goal.returns-in-None
returns-in-None g c = asked_done g.S.Steps.sense c.args.id c.args.changes.now (number_of c.args.id) c.in_ok-code.field-0 c.args.s.now c.ask_on.new.s c.ask_on.new.s _ c.in_ok-code.ensures c.in-None.is
    (numbered g.S.Steps.sense c.args.id c.number_at.result c.ask_on.new.s c.number_at.ensures)
