use Rattle.std.proofs.Common.{sym, subst}
use Rattle.cf_filter_calls.specs.Operating.{MayChangeBy, changed_then}
use Rattle.cf_model.specs.Requests.{Waiting}
use Rattle.cf_waits.specs.Steps.{IsPlanned}
use Rattle.cf_filter_steps.proofs.Laws.{with_err}
use Rattle.cf_filter_calls.proofs.Operated.{change_fails, changed_not, changed_on}
use Rattle.cf_filter_calls.proofs.operation_changes.change_then.Goals as goal

pub returns-in-Err : goal.returns-in-Err
returns-in-Err g c = change_fails g.S.Steps.sense c.args.s.now c.change.new.self c.args.change c.args.step c.in-Err.fail c.in-Err.ensures.does

pub settle_by-requires : goal.settle_by-requires
settle_by-requires g c = subst (λ (w : Waiting). IsPlanned c.args.step w) (sym c.in-Ok.ensures.same) c.requires

pub returns-in_err-settle_by-in-Ok : goal.returns-in_err-settle_by-in-Ok
returns-in_err-settle_by-in-Ok g c = λ item d. with_err g.S.Steps.sense (MayChangeBy item c.args.change d c.args.step) (changed_then item c.args.change d) c.args.s.now c.settle_by.new.s c.in_err-settle_by-in-Ok.field-0.0 c.from_residual.result c.from_residual.ensures.1
    (changed_not g.S.Steps.sense c.args.s.now c.change.new.self c.settle_by.new.s c.args.change c.args.step c.in-Ok.field-0 c.in_err-settle_by-in-Ok.field-0.0 c.in-Ok.ensures.does c.in_err-settle_by-in-Ok.ensures item d)

pub returns-in_ok-settle_by-in-Ok : goal.returns-in_ok-settle_by-in-Ok
returns-in_ok-settle_by-in-Ok g c = changed_on g.S.Steps.sense c.args.s.now c.change.new.self c.settle_by.new.s c.args.change c.args.step c.in-Ok.field-0 c.in_ok-settle_by-in-Ok.field-0 c.in-Ok.ensures.does c.in_ok-settle_by-in-Ok.ensures
