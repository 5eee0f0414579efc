use Rattle.cf_base.specs.declared.notices.Notice.TheVariants as notice
use Rattle.cf_provider_script.proofs.Carried.{met_device, no_line, not_done, was_done}
use Rattle.cf_provider_script.proofs.plan_steps.carry_out.Goals as goal

pub returns-in_err-answer : goal.returns-in_err-answer
returns-in_err-answer g c = not_done g.P.Port.goes c.args.op c.args.port.now c.execute-told.new.self c.execute-told.result c.in_err-answer.field-0.0 c.from_residual.result c.execute-told.ensures c.in_err-answer.ensures c.from_residual.ensures.1

pub returns-in_default : goal.returns-in_default
returns-in_default g c = met_device g.P.Port.goes c.args.op c.args.port.now c.execute-told.new.self c.execute-told.result c.in_ok-answer.field-0 c.execute-told.ensures c.in_ok-answer.ensures c.in_default.is

pub returns-in_err-note : goal.returns-in_err-note
returns-in_err-note g c =
    no_line g.P.Port.goes g.met.P.Port.goes_on c.args.op c.args.port.now c.execute-told.new.self c.note.new.self c.execute-told.result c.in_ok-answer.field-0 c.in-Some.answer (notice.Operation c.in-Some.answer) c.in_err-note.field-0.0 c.from_residual-in_err-note.result
    c.execute-told.ensures c.in_ok-answer.ensures c.in-Some.is c.in_err-note.ensures c.from_residual-in_err-note.ensures.1

pub returns : goal.returns
returns g c =
    was_done g.P.Port.goes g.met.P.Port.goes_on c.args.op c.args.port.now c.execute-told.new.self c.note.new.self c.execute-told.result c.in_ok-answer.field-0 c.in-Some.answer c.execute-told.ensures c.in_ok-answer.ensures c.in-Some.is c.in_ok-note.ensures
