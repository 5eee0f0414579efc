use Rattle.std.proofs.Common.{arith, refl}
use Rattle.cf_base.specs.declared.spans.Span.{Span}
use Rattle.cf_ask_rule.proofs.Following.{place_near}
use Rattle.cf_ask_rule.proofs.searches.is_place.Goals as goal

pub returns-then-place-eq0 : goal.returns-then-place-eq0
returns-then-place-eq0 c = λ t. place_near c.args.from c.args.place c.args.runs.now _ none c.ends_by.result _ c.requires (omega (arith, c.if-place-runs.false)) c.ends_by.ensures c.if-ends_by.false refl (λ more. absurd (omega (arith, c.if-place-eq0.true))) where
  none : Span
  none = record { start = 0; len = 0 }

pub returns : goal.returns
returns c = λ t. place_near c.args.from c.args.place c.args.runs.now _ _ c.ends_by.result c.ends_by-2.result c.requires (omega (arith, c.if-place-runs.false)) c.ends_by.ensures c.if-ends_by.false c.ends_by-2.ensures (λ more. t)
