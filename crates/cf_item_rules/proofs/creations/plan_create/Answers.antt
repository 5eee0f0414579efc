use Rattle.std.proofs.Common.{◌∙◌, Result, ap, sym}
use Rattle.std.specs.Result.{result_err}
use Rattle.cf_base.specs.declared.codes.Code.{Code}
use Rattle.cf_item_rules.proofs.Creating.{create_is, goes_on, refused}
use Rattle.cf_item_rules.proofs.creations.plan_create.Goals as goal

pub returns-in-Err : goal.returns-in-Err
returns-in-Err c = λ items m.
    create_is c.args.rows.now.rows items c.args.policy.now c.args.rows.now.next c.args.next c.args.parent c.args.name.now c.args.what.now m
    ∙ refused _ _ c.in-Err.code (sym c.refuse_create.ensures ∙ ap (λ (r : Result (Unit {0}) Code). result_err r) c.in-Err.is)

pub returns-in_ok-changes-in-Ok : goal.returns-in_ok-changes-in-Ok
returns-in_ok-changes-in-Ok c = λ items m.
    create_is c.args.rows.now.rows items c.args.policy.now c.args.rows.now.next c.args.next c.args.parent c.args.name.now c.args.what.now m
    ∙ goes_on _ _ c.in_ok-changes-in-Ok.changes (sym c.refuse_create.ensures ∙ ap (λ (r : Result (Unit {0}) Code). result_err r) c.in-Ok.is) (cc (c.in_ok-changes-in-Ok.ensures, c.next.ensures))
