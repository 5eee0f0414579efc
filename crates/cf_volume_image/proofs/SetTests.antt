-- Tests of sets of places.
use Rattle.std.proofs.Common.{◌≡◌, ℕ, zero, suc, ◌+◌, ◌-◌, ◌^◌, ◌<◌, ◌≤◌, Bool, true, false, ◌||◌, ◌==◌, List, [], ◌∷◌, length, get_or, refl, sym, ap, subst, ◌∙◌, arith, inl, inr, ◌⊎◌}
use Rattle.std.proofs.lemmas.Bool.{cases_lt}
use Rattle.std.proofs.lemmas.Bool.Decides.{nat_tests}
use Rattle.cf_base.specs.declared.spans.Span.{Span}
use Rattle.cf_ranges.specs.Positions.{IsBelow, IsRuns, IsRunsFrom, contains, in_span, within}
use Rattle.cf_volume_image.specs.Sets.{HasAll, HasSpan, IsRunAt}

pub inside : (from to p : ℕ) → from ≤ p → p < to → within from to p ≡ true
inside from to p h k = grind (arith, nat_tests)

pub within_from : (from to p : ℕ) → within from to p ≡ true → (from ≤ p) × (p < to)
within_from from to p h = (grind (arith, nat_tests), grind (arith, nat_tests))

pub or_left : (a b : Bool) → a ≡ true → (a || b) ≡ true
or_left a b h = ap (λ v. v || b) h

pub or_right : (a b : Bool) → b ≡ true → (a || b) ≡ true
or_right true b h = refl
or_right false b h = h

pub either_of : (a b : Bool) → (a || b) ≡ true → (a ≡ true) ⊎ (b ≡ true)
either_of true b h = inl refl
either_of false b h = inr h

-- each place of one run
pub run_in : (runs : List Span) (j : ℕ) (d : Span) (p : ℕ) → j < length runs → (get_or runs j d).start ≤ p → p < (get_or runs j d).start + (get_or runs j d).len → contains runs p ≡ true
run_in [] j d p lt h k = absurd (omega arith)
run_in (r ∷ rs) zero d p lt h k = or_left (in_span r p) (contains rs p) (inside r.start (r.start + r.len) p h k)
run_in (r ∷ rs) (suc j) d p lt h k = or_right (in_span r p) (contains rs p) (run_in rs j d p (omega arith) h k)

none_before : (low p : ℕ) (runs : List Span) → IsRunsFrom low runs → p < low → contains runs p ≡ false
none_before low p [] h lt = refl
none_before low p (r ∷ rs) h lt = step (in_span r p) (contains rs p) (outside r.start (r.start + r.len) p (omega (arith, h.0))) (none_before (r.start + r.len + 1) p rs h.3 (omega (arith, h.0))) where
  outside : (from to p : ℕ) → p < from → within from to p ≡ false
  outside from to p h = grind (arith, nat_tests)

  step : (a b : Bool) → a ≡ false → b ≡ false → (a || b) ≡ false
  step a b h k = ap (λ v. v || b) h ∙ k

-- no run goes on at its end
pub gap_behind : (low : ℕ) (runs : List Span) (j : ℕ) (d : Span) → IsRunsFrom low runs → j < length runs → contains runs ((get_or runs j d).start + (get_or runs j d).len) ≡ false
gap_behind low [] j d h lt = absurd (omega arith)
gap_behind low (r ∷ rs) zero d h lt =
    step (in_span r (r.start + r.len)) (contains rs (r.start + r.len)) (ended r.start (r.start + r.len)) (none_before (r.start + r.len + 1) (r.start + r.len) rs h.3 (omega arith)) where
      ended : (from to : ℕ) → within from to to ≡ false
      ended from to = grind (arith, nat_tests)

      step : (a b : Bool) → a ≡ false → b ≡ false → (a || b) ≡ false
      step a b h k = ap (λ v. v || b) h ∙ k
gap_behind low (r ∷ rs) (suc j) d h lt =
    step (in_span r (e rs)) (contains rs (e rs)) (past r.start (r.start + r.len) (e rs) (omega (arith, later (r.start + r.len + 1) rs j d h.3 (omega arith)))) (gap_behind (r.start + r.len + 1) rs j d h.3 (omega arith)) where
      e : List Span → ℕ
      e rs = (get_or rs j d).start + (get_or rs j d).len

      step : (a b : Bool) → a ≡ false → b ≡ false → (a || b) ≡ false
      step a b h k = ap (λ v. v || b) h ∙ k

      past : (from to p : ℕ) → to ≤ p → within from to p ≡ false
      past from to p h = grind (arith, nat_tests)

      later : (low : ℕ) (rs : List Span) (j : ℕ) (d : Span) → IsRunsFrom low rs → j < length rs → low ≤ (get_or rs j d).start
      later low [] j d h lt = absurd (omega arith)
      later low (x ∷ xs) zero d h lt = h.0
      later low (x ∷ xs) (suc j) d h lt = omega (arith, h.0, later (x.start + x.len + 1) xs j d h.3 (omega arith))

pub is_run_at : (runs : List Span) (at j : ℕ) (d : Span) → IsRuns runs → j < length runs → (get_or runs j d).start ≤ at → at - (get_or runs j d).start < (get_or runs j d).len → IsRunAt runs at (get_or runs j d)
is_run_at runs at j d h lt begun ends = record {
  begun = begun;
  not_ended = omega (arith, begun, ends);
  each = λ p from to. run_in runs j d p lt from to;
  no_more = gap_behind 0 runs j d h lt;
}

-- spans

pub span_of_none : (runs : List Span) (from to : ℕ) → to ≤ from → HasSpan runs from to
span_of_none runs from to h p le lt = absurd (omega arith)

pub no_span : (runs : List Span) (from to : ℕ) → from < to → contains runs from ≡ false → HasSpan runs from to → false ≡ true
no_span runs from to lt h all = sym h ∙ all from (omega arith) lt

pub span_in : (runs : List Span) (from to : ℕ) (s : Span) → IsRunAt runs from s → to - s.start ≤ s.len → HasSpan runs from to
span_in runs from to s at h p le lt = at.each p (omega (arith, at.begun, le)) (omega (arith, at.begun, h, lt, le))

pub span_ends : (runs : List Span) (from to : ℕ) (s : Span) → IsRunAt runs from s → from < to → HasSpan runs from to → to - s.start ≤ s.len
span_ends runs from to s at lt all = elim (cases_lt s.len (to - s.start)) [
  | inl more ↦ let z : false ≡ true = sym at.no_more ∙ all (s.start + s.len) (omega (arith, at.not_ended)) (omega (arith, more, at.begun)) in cc
  | inr le ↦ le
]

-- all places of a set

pub all_cons : (outer rest : List Span) (s : Span) → HasSpan outer s.start (s.start + s.len) → HasAll outer rest → HasAll outer (s ∷ rest)
all_cons outer rest s h k p at = elim (either_of (in_span s p) (contains rest p) at) [
  | inl here ↦ let w = within_from s.start (s.start + s.len) p here in h p w.0 w.1
  | inr there ↦ k p there
]

pub all_first : (outer rest : List Span) (s : Span) → HasAll outer (s ∷ rest) → HasSpan outer s.start (s.start + s.len)
all_first outer rest s h p le lt = h p (or_left (in_span s p) (contains rest p) (inside s.start (s.start + s.len) p le lt))

pub all_rest : (outer rest : List Span) (s : Span) → HasAll outer (s ∷ rest) → HasAll outer rest
all_rest outer rest s h p at = h p (or_right (in_span s p) (contains rest p) at)

-- an upper bound

last_place : (low : ℕ) (runs : List Span) (j : ℕ) (d : Span) → IsRunsFrom low runs → length runs ≡ j + 1 → (p : ℕ) → contains runs p ≡ true → p < (get_or runs j d).start + (get_or runs j d).len
last_place low [] j d h is p at = absurd (omega arith)
last_place low (r ∷ []) zero d h is p at = elim (either_of (in_span r p) false at) [
  | inl here ↦ (within_from r.start (r.start + r.len) p here).1
  | inr there ↦ let z : false ≡ true = there in absurd cc
]
last_place low (r ∷ []) (suc j) d h is p at = absurd (omega arith)
last_place low (r ∷ s ∷ rs) zero d h is p at = absurd (omega arith)
last_place low (r ∷ s ∷ rs) (suc j) d h is p at = elim (either_of (in_span r p) (contains (s ∷ rs) p) at) [
  | inl here ↦ omega (arith, (within_from r.start (r.start + r.len) p here).1, last_place (r.start + r.len + 1) (s ∷ rs) j d h.3 (omega arith) s.start (or_left (in_span s s.start) (contains rs s.start) (inside s.start (s.start + s.len) s.start (omega arith) (omega (arith, h.3.1)))), h.3.0)
  | inr there ↦ last_place (r.start + r.len + 1) (s ∷ rs) j d h.3 (omega arith) p there
]

pub nonempty : (low : ℕ) (runs : List Span) (j : ℕ) (d : Span) → IsRunsFrom low runs → j < length runs → 0 < (get_or runs j d).len
nonempty low [] j d h lt = absurd (omega arith)
nonempty low (r ∷ rs) zero d h lt = h.1
nonempty low (r ∷ rs) (suc j) d h lt = nonempty (r.start + r.len + 1) rs j d h.3 (omega arith)

pub below_by_last : (runs : List Span) (j : ℕ) (d : Span) (top : ℕ) → IsRuns runs → length runs ≡ j + 1 → (get_or runs j d).start + (get_or runs j d).len ≤ top → IsBelow runs top
below_by_last runs j d top h is le p at = omega (arith, le, last_place 0 runs j d h is p at)

pub last_below : (runs : List Span) (j : ℕ) (d : Span) (top : ℕ) → IsRuns runs → length runs ≡ j + 1 → IsBelow runs top → (get_or runs j d).start + (get_or runs j d).len ≤ top
last_below runs j d top h is below =
    let some : 0 < (get_or runs j d).len = nonempty 0 runs j d h (omega arith) in
    omega (arith, some, below ((get_or runs j d).start + (get_or runs j d).len - 1) (run_in runs j d ((get_or runs j d).start + (get_or runs j d).len - 1) (omega arith) (omega (arith, some)) (omega (arith, some))))

pub small_at : (low : ℕ) (runs : List Span) (j : ℕ) (d : Span) → IsRunsFrom low runs → j < length runs → (get_or runs j d).start + (get_or runs j d).len ≤ 2 ^ 40
small_at low [] j d h lt = absurd (omega arith)
small_at low (r ∷ rs) zero d h lt = h.2
small_at low (r ∷ rs) (suc j) d h lt = small_at (r.start + r.len + 1) rs j d h.3 (omega arith)

pub not_empty : (n : ℕ) (b : Bool) → b ≡ (n == 0) → b ≡ false → 0 < n
not_empty zero b h k = let z : true ≡ false = sym h ∙ k in absurd cc
not_empty (suc n) b h k = omega arith

pub none_inside : (outer inner : List Span) → inner ≡ [] → HasAll outer inner
none_inside outer inner is p at = let z : false ≡ true = subst (λ (l : List Span). contains l p ≡ true) is at in absurd cc
