use Rattle.std.proofs.Common.{◌∙◌, ◌&&◌, ap, eqb, sym}
use Rattle.std.specs.List.{list_any}
use Rattle.cf_ask_rule.specs.Narrowing.{reaches_into}
use Rattle.cf_model.specs.Missing.{Wait, needed}
use Rattle.cf_waits.proofs.Skipped.{whole_waits}
use Rattle.cf_waits.proofs.near_waits.count_near.Goals as goal

pub returns-clause-far : goal.returns-clause-far
returns-clause-far c =
    ap (list_any (λ (w : Wait). (eqb w.item.0 c.args.item.0) && reaches_into (needed c.args.v.now w) c.args.span.start c.args.span.end)) (sym (whole_waits c.args.rest.now 1)) ∙ sym c.has_near.ensures ∙ c.if-has_near.false
