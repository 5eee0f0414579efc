-- A set has one list of runs.
use Rattle.std.proofs.Common.{◌≡◌, ℕ, ◌+◌, ◌<◌, ◌≤◌, Bool, true, false, ◌||◌, List, [], ◌∷◌, refl, sym, ap, ◌∙◌, arith, inl, inr}
use Rattle.std.proofs.lemmas.Bool.{cases_order, cases_lt}
use Rattle.std.proofs.lemmas.Bool.Decides.{nat_tests}
use Rattle.cf_base.specs.declared.spans.Span.{Span}
use Rattle.cf_ranges.specs.Positions.{within, contains, IsRunsFrom}
use Rattle.cf_ranges.proofs.Sets.{none_below}

at_start : (r : Span) (rs : List Span) (p : ℕ) → r.start ≤ p → p < r.start + r.len → contains (r ∷ rs) p ≡ true
at_start r rs p h k = inside r.start (r.start + r.len) p (contains rs p) h k where
  inside : (from to p : ℕ) (b : Bool) → from ≤ p → p < to → (within from to p || b) ≡ true
  inside from to p b h k = grind (arith, nat_tests)

at_end : (r : Span) (rs : List Span) (p : ℕ) → r.start + r.len ≤ p → contains (r ∷ rs) p ≡ contains rs p
at_end r rs p h = outside r.start (r.start + r.len) p (contains rs p) h where
  outside : (from to p : ℕ) (b : Bool) → to ≤ p → (within from to p || b) ≡ b
  outside from to p b h = grind (arith, nat_tests)

same_span : (a b : Span) → a.start ≡ b.start → a.len ≡ b.len → a ≡ b
same_span a b p q = λ i. record { start = p i; len = q i }

no_less : (a b : Span) (as' bs : List Span) (low high : ℕ) → IsRunsFrom low (a ∷ as') → IsRunsFrom high (b ∷ bs) → ((p : ℕ) → contains (a ∷ as') p ≡ contains (b ∷ bs) p) → a.start < b.start → ⊥
no_less a b as' bs low high ra rb same h =
    let x : contains (a ∷ as') a.start ≡ true = at_start a as' a.start (omega arith) (omega (arith, ra.1)) in
    let y : contains (b ∷ bs) a.start ≡ false = none_below a.start b.start (b ∷ bs) h (omega arith, rb.1, rb.2, rb.3) in
    let z : true ≡ false = sym x ∙ same a.start ∙ y in cc

no_shorter : (a b : Span) (as' bs : List Span) (low high : ℕ) → IsRunsFrom low (a ∷ as') → IsRunsFrom high (b ∷ bs) → ((p : ℕ) → contains (a ∷ as') p ≡ contains (b ∷ bs) p) → a.start ≡ b.start → a.len < b.len → ⊥
no_shorter a b as' bs low high ra rb same e h =
    let x : contains (a ∷ as') (a.start + a.len) ≡ false = at_end a as' (a.start + a.len) (omega arith) ∙ none_below (a.start + a.len) (a.start + a.len + 1) as' (omega arith) ra.3 in
    let y : contains (b ∷ bs) (a.start + a.len) ≡ true = at_start b bs (a.start + a.len) (omega arith) (omega arith) in
    let z : true ≡ false = sym y ∙ sym (same (a.start + a.len)) ∙ x in cc

below_both : (a b : Span) (as' bs : List Span) (low high : ℕ) → IsRunsFrom low (a ∷ as') → IsRunsFrom high (b ∷ bs) → ((p : ℕ) → contains (a ∷ as') p ≡ contains (b ∷ bs) p) → a.start ≡ b.start → a.len ≡ b.len → (p : ℕ) → contains as' p ≡ contains bs p
below_both a b as' bs low high ra rb same e f p = elim (cases_lt p (a.start + a.len)) [
  | inl h ↦ none_below p (a.start + a.len + 1) as' (omega arith) ra.3 ∙ sym (none_below p (b.start + b.len + 1) bs (omega arith) rb.3)
  | inr h ↦ sym (at_end a as' p h) ∙ same p ∙ at_end b bs p (omega arith)
]

pub one_list : (low high : ℕ) (xs ys : List Span) → IsRunsFrom low xs → IsRunsFrom high ys → ((p : ℕ) → contains xs p ≡ contains ys p) → xs ≡ ys
one_list low high [] [] rx ry same = refl
one_list low high [] (b ∷ bs) rx ry same = let z : false ≡ true = same b.start ∙ at_start b bs b.start (omega arith) (omega (arith, ry.1)) in cc
one_list low high (a ∷ as') [] rx ry same = let z : true ≡ false = sym (at_start a as' a.start (omega arith) (omega (arith, rx.1))) ∙ same a.start in cc
one_list low high (a ∷ as') (b ∷ bs) rx ry same =
    let starts : a.start ≡ b.start = elim (cases_order a.start b.start) [
      | inl e ↦ e
      | inr u ↦ elim u [ inl h ↦ absurd (no_less a b as' bs low high rx ry same h) | inr h ↦ absurd (no_less b a bs as' high low ry rx (λ p. sym (same p)) h) ]
    ] in
    let lens : a.len ≡ b.len = elim (cases_order a.len b.len) [
      | inl e ↦ e
      | inr u ↦ elim u [ inl h ↦ absurd (no_shorter a b as' bs low high rx ry same starts h) | inr h ↦ absurd (no_shorter b a bs as' high low ry rx (λ p. sym (same p)) (sym starts) h) ]
    ] in
    ap (λ s. s ∷ as') (same_span a b starts lens)
    ∙ ap (λ s. b ∷ s) (one_list (a.start + a.len + 1) (b.start + b.len + 1) as' bs rx.3 ry.3 (below_both a b as' bs low high rx ry same starts lens))
