use Rattle.cf_filter_calls.proofs.Asked.{asks_err, asks_off, asks_on}
use Rattle.cf_filter_calls.proofs.marks.ask_on.Goals as goal

pub returns-in-Ok-Some : goal.returns-in-Ok-Some
returns-in-Ok-Some g c = asks_off g.S.Steps.sense c.args.s.now c.args.id c.args.changes.now c.in_ok-step.step c.in-Ok-Some.field-0 c.in-Ok-Some.code c.in_ok-step.ensures.looks c.in-Ok-Some.ensures c.in-Ok-Some.field-0-is

pub returns-in_err-make_with-in-Ok-None : goal.returns-in_err-make_with-in-Ok-None
returns-in_err-make_with-in-Ok-None g c = asks_err g.S.Steps.sense c.args.s.now c.make_with.new.s c.args.id c.args.changes.now c.in_ok-step.step c.in-Ok-None.field-0 c.in_err-make_with-in-Ok-None.field-0.0 c.from_residual-in_err-make_with-in-Ok-None.result
    c.in_ok-step.ensures.looks c.in-Ok-None.ensures c.in-Ok-None.field-0-is c.in_err-make_with-in-Ok-None.ensures c.from_residual-in_err-make_with-in-Ok-None.ensures.1

pub returns-in_ok-make_with-in-Ok-None : goal.returns-in_ok-make_with-in-Ok-None
returns-in_ok-make_with-in-Ok-None g c = asks_on g.S.Steps.sense c.args.s.now c.make_with.new.s c.args.id c.args.changes.now c.in_ok-step.step c.in-Ok-None.field-0 c.in_ok-make_with-in-Ok-None.field-0
    c.in_ok-step.ensures.looks c.in-Ok-None.ensures c.in-Ok-None.field-0-is c.in_ok-make_with-in-Ok-None.ensures
