use Rattle.std.proofs.Common.{sym, subst}
use Rattle.cf_filter_calls.proofs.Asked.{made_flag, made_not}
use Rattle.cf_model.specs.Requests.{Nothing, Waiting}
use Rattle.cf_waits.specs.Steps.{IsPlanned}
use Rattle.cf_filter_calls.proofs.marks.make_with.Goals as goal

pub returns-in-Err : goal.returns-in-Err
returns-in-Err g c = made_not g.S.Steps.sense c.args.s.now c.change_copied.new.s c.args.changes.now c.in-Some.change.now c.args.step c.in-Err.fail c.in-Some.ensures.value c.in-Err.ensures.does

pub settle_by-requires : goal.settle_by-requires
settle_by-requires g c = subst (λ (w : Waiting). IsPlanned c.args.step w) (sym c.in-Ok.ensures.same) c.requires

pub returns-in-Ok : goal.returns-in-Ok
returns-in-Ok g c = made_flag g.S.Steps.sense c.args.s.now c.change_copied.new.s c.settle_by.new.s c.args.changes.now c.in-Some.change.now c.args.step c.in-Ok.field-0 c.settle_by.result c.in-Some.ensures.value
    c.in-Ok.ensures.does (λ id. c.settle_by.ensures id Nothing)
