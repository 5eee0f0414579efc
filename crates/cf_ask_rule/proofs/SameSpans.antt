-- What `==` says of spans.
use Rattle.std.proofs.Common.{◌≡◌, ℕ, Bool, true, false, ◌&&◌, refl, sym, ap, ◌∙◌, arith, eqb, eqb-true}
use Rattle.std.specs.Bool.{Decides}
use Rattle.std.proofs.lemmas.Bool.Decides.{nat_tests}
use Rattle.cf_base.specs.declared.spans.Span.{Span}

both : (a b : Bool) → (a && b) ≡ true → (a ≡ true) × (b ≡ true)
both true b h = (refl, h)
both false b h = let z : false ≡ true = h in cc

itself : (m n : ℕ) → (eqb m m && eqb n n) ≡ true
itself m n = grind (arith, nat_tests)

pub same_span : (a b : Span) → Decides (eqb a.start b.start && eqb a.len b.len) (a ≡ b)
same_span a b = (
  λ t. (λ j. record { start = eqb-true a.start b.start (both (eqb a.start b.start) (eqb a.len b.len) t).0 j; len = eqb-true a.len b.len (both (eqb a.start b.start) (eqb a.len b.len) t).1 j }),
  λ e. ap (λ (x : Span). eqb a.start x.start && eqb a.len x.len) (sym e) ∙ itself a.start a.len,
)
