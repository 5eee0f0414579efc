use Rattle.std.proofs.Common.{subst}
use Rattle.std.specs.Prelude.{Result}
use Rattle.cf_base.specs.declared.codes.CallError.{CallError}
use Rattle.cf_model.specs.Changes.{changes as all_changes}
use Rattle.cf_filter_steps.specs.Answering.{Answers}
use Rattle.cf_filter_steps.specs.Suiting.{ReadyAll}
use Rattle.cf_filter_calls.proofs.Consented.{left_not, left_then}
use Rattle.cf_filter_calls.proofs.consents.empty_then.Goals as goal

pub returns-in-Err : goal.returns-in-Err
returns-in-Err g c = left_not g.S.Steps.sense c.args.s.now c.make_changes-made.new.s c.args.ask.now c.from_ref.result.now c.in-Err.fail c.from_ref.ensures.value
    (subst (λ (r : Result (Unit {0}) CallError). Answers g.S.Steps.sense (ReadyAll c.from_ref.result.now) (all_changes c.from_ref.result.now) c.args.s.now r c.make_changes-made.new.s) c.in-Err.is c.make_changes-made.ensures)

pub returns-in-Ok : goal.returns-in-Ok
returns-in-Ok g c = left_then g.S.Steps.sense c.args.s.now c.make_changes-made.new.s c.finish_now.new.s c.args.ask.now c.from_ref.result.now c.in-Ok.field-0 c.finish_now.result c.from_ref.ensures.value
    (subst (λ (r : Result (Unit {0}) CallError). Answers g.S.Steps.sense (ReadyAll c.from_ref.result.now) (all_changes c.from_ref.result.now) c.args.s.now r c.make_changes-made.new.s) c.in-Ok.is c.make_changes-made.ensures) c.finish_now.ensures
