-- The functions on lists do to the sets what they should, and keep the runs maximal.
use Rattle.std.proofs.Common.{◌≡◌, ℕ, ◌+◌, ◌-◌, ◌^◌, ◌<◌, ◌≤◌, Bool, true, false, ◌&&◌, ◌||◌, not, List, [], ◌∷◌, max, min, refl, ap, ◌∙◌, arith, ltb}
use Rattle.std.specs.Prelude.{All}
use Rattle.std.proofs.lemmas.Bool.{cond_both, ltb-false, ltb-true}
use Rattle.std.proofs.lemmas.List.Elements.{All-cons, All-nil}
use Rattle.std.proofs.lemmas.Bool.Decides.{nat_tests}
use Rattle.cf_base.specs.declared.spans.Span.{Span}
use Rattle.cf_ranges.specs.Positions.{within, in_span, contains, IsRunsFrom}
use Rattle.cf_ranges.specs.Steps.{added, piece, cut_of, missing_of}

or_assoc : (a b c : Bool) → (a || (b || c)) ≡ ((a || b) || c)
or_assoc true b c = refl
or_assoc false b c = refl

or_swap : (a b c : Bool) → (a || (b || c)) ≡ ((b || c) || a)
or_swap true true c = refl
or_swap true false true = refl
or_swap true false false = refl
or_swap false true c = refl
or_swap false false true = refl
or_swap false false false = refl

span_is : (start end p : ℕ) → start ≤ end → within start (start + (end - start)) p ≡ within start end p
span_is start end p h = grind (arith, nat_tests)

alone : (start end p : ℕ) → start ≤ end → (within start (start + (end - start)) p || false) ≡ within start end p
alone start end p h = grind (arith, nat_tests)

joined : (start end from to p : ℕ) (b : Bool) → start < end → from < to → start ≤ to → from ≤ end →
    (b || within (min start from) (max end to) p) ≡ ((within from to p || b) || within start end p)
joined start end from to p true h k u v = grind (arith, nat_tests)
joined start end from to p false h k u v = grind (arith, nat_tests)

pub contains_added : (start end p low : ℕ) (runs : List Span) → start < end → IsRunsFrom low runs → contains (added start end runs) p ≡ (contains runs p || within start end p)
contains_added start end p low [] h runs = alone start end p (omega arith)
contains_added start end p low (r ∷ rs) h runs =
    cond_both (ltb (r.start + r.len) start) _ _ (λ x. contains x p ≡ (contains (r ∷ rs) p || within start end p))
    (λ before. ap (λ b. in_span r p || b) (contains_added start end p _ rs h runs.3) ∙ or_assoc (in_span r p) (contains rs p) (within start end p))
    (λ reaches. cond_both (ltb end r.start) _ _ (λ x. contains x p ≡ (contains (r ∷ rs) p || within start end p))
    (λ after. ap (λ b. b || (in_span r p || contains rs p)) (span_is start end p (omega arith)) ∙ or_swap (within start end p) (in_span r p) (contains rs p))
    (λ meets. contains_added (min start r.start) (max end (r.start + r.len)) p _ rs (omega arith) runs.3
    ∙ joined start end r.start (r.start + r.len) p (contains rs p) h (omega (arith, runs.1)) (ltb-false _ _ reaches) (ltb-false _ _ meets)))

pub lower : (low high : ℕ) (runs : List Span) → low ≤ high → IsRunsFrom high runs → IsRunsFrom low runs
lower low high [] h runs = tt
lower low high (r ∷ rs) h runs = (omega (arith, runs.0), runs.1, runs.2, runs.3)

pub runs_added : (start end low : ℕ) (runs : List Span) → low ≤ start → start < end → end ≤ 2 ^ 40 → IsRunsFrom low runs → IsRunsFrom low (added start end runs)
runs_added start end low [] l h t runs = (l, omega arith, omega arith, tt)
runs_added start end low (r ∷ rs) l h t runs =
    cond_both (ltb (r.start + r.len) start) _ _ (λ x. IsRunsFrom low x)
    (λ before. let lt : r.start + r.len < start = ltb-true _ _ before in (runs.0, runs.1, runs.2, runs_added start end _ rs (omega arith) h t runs.3))
    (λ reaches. cond_both (ltb end r.start) _ _ (λ x. IsRunsFrom low x)
    (λ after. let lt : end < r.start = ltb-true _ _ after in (l, omega arith, omega arith, (omega arith, runs.1, runs.2, runs.3)))
    (λ meets. runs_added (min start r.start) (max end (r.start + r.len)) low rs (omega (arith, runs.0)) (omega arith) (omega (arith, runs.2))
    (lower low _ rs (omega (arith, runs.0)) runs.3)))

pub contains_piece : (from to p : ℕ) (rest : List Span) → contains (piece from to rest) p ≡ (within from to p || contains rest p)
contains_piece from to p rest = cond_both (ltb from to) _ _ (λ x. contains x p ≡ (within from to p || contains rest p))
    (λ some. ap (λ b. b || contains rest p) (span_is from to p (omega (arith, ltb-true _ _ some))))
    (λ none. ap (λ b. b || contains rest p) (empty from to p (ltb-false _ _ none))) where
      empty : (from to p : ℕ) → to ≤ from → false ≡ within from to p
      empty from to p h = grind (arith, nat_tests)

pub runs_piece : (low from to next : ℕ) (rest : List Span) → low ≤ from → to ≤ 2 ^ 40 → low ≤ next → to + 1 ≤ next → IsRunsFrom next rest → IsRunsFrom low (piece from to rest)
runs_piece low from to next rest l t n g runs = cond_both (ltb from to) _ _ (λ x. IsRunsFrom low x)
    (λ some. let lt : from < to = ltb-true _ _ some in (l, omega arith, omega arith, lower _ next rest (omega arith) runs))
    (λ none. lower low next rest n runs)

cut_one : (start end from to p : ℕ) (b : Bool) → start < end →
    (within from (min to start) p || (within (max from end) to p || (b && not (within start end p)))) ≡ ((within from to p || b) && not (within start end p))
cut_one start end from to p true h = grind (arith, nat_tests)
cut_one start end from to p false h = grind (arith, nat_tests)

pub contains_cut : (start end p : ℕ) (runs : List Span) → start < end → contains (cut_of start end runs) p ≡ (contains runs p && not (within start end p))
contains_cut start end p [] h = refl
contains_cut start end p (r ∷ rs) h =
    contains_piece r.start (min (r.start + r.len) start) p _
    ∙ ap (λ b. within r.start (min (r.start + r.len) start) p || b) (contains_piece (max r.start end) (r.start + r.len) p _ ∙ ap (λ b. within (max r.start end) (r.start + r.len) p || b) (contains_cut start end p rs h))
    ∙ cut_one start end r.start (r.start + r.len) p (contains rs p) h

pub runs_cut : (start end low : ℕ) (runs : List Span) → start < end → IsRunsFrom low runs → IsRunsFrom low (cut_of start end runs)
runs_cut start end low [] h runs = tt
runs_cut start end low (r ∷ rs) h runs =
    runs_piece low r.start (min (r.start + r.len) start) (min (max r.start end) (r.start + r.len + 1)) _ runs.0 (omega (arith, runs.2)) (omega (arith, runs.0)) (omega arith)
    (runs_piece _ (max r.start end) (r.start + r.len) (r.start + r.len + 1) _ (omega arith) runs.2 (omega arith) (omega arith)
    (runs_cut start end (r.start + r.len + 1) rs h runs.3))

pub none_below : (p low : ℕ) (runs : List Span) → p < low → IsRunsFrom low runs → contains runs p ≡ false
none_below p low [] h runs = refl
none_below p low (r ∷ rs) h runs = ap (λ b. in_span r p || b) (none_below p (r.start + r.len + 1) rs (omega (arith, runs.0)) runs.3) ∙ before r.start (r.start + r.len) p (omega (arith, runs.0)) where
  before : (from to p : ℕ) → p < from → (within from to p || false) ≡ false
  before from to p h = grind (arith, nat_tests)

miss_one : (pos end from to p : ℕ) (b : Bool) → from < to → (p < to → b ≡ false) →
    (within pos (min from end) p || (within (max pos to) end p && not b)) ≡ (within pos end p && not (within from to p || b))
miss_one pos end from to p true h below = grind (arith, nat_tests)
miss_one pos end from to p false h below = grind (arith, nat_tests)

pub contains_missing : (pos end p low : ℕ) (runs : List Span) → IsRunsFrom low runs → contains (missing_of pos end runs) p ≡ (within pos end p && not (contains runs p))
contains_missing pos end p low [] runs = contains_piece pos end p [] ∙ last (within pos end p) where
  last : (b : Bool) → (b || false) ≡ (b && true)
  last true = refl
  last false = refl
contains_missing pos end p low (r ∷ rs) runs =
    contains_piece pos (min r.start end) p _
    ∙ ap (λ b. within pos (min r.start end) p || b) (contains_missing (max pos (r.start + r.len)) end p _ rs runs.3)
    ∙ miss_one pos end r.start (r.start + r.len) p (contains rs p) (omega (arith, runs.1)) (λ h. none_below p _ rs (omega arith) runs.3)

pub runs_missing : (pos end low from : ℕ) (runs : List Span) → low ≤ pos → end ≤ 2 ^ 40 → IsRunsFrom from runs → IsRunsFrom low (missing_of pos end runs)
runs_missing pos end low from [] l t runs = runs_piece low pos end (max low (end + 1)) [] l t (omega arith) (omega arith) tt
runs_missing pos end low from (r ∷ rs) l t runs =
    runs_piece low pos (min r.start end) (max pos (r.start + r.len)) _ l (omega arith) (omega arith) (omega (arith, runs.1))
    (runs_missing (max pos (r.start + r.len)) end _ _ rs (omega arith) t runs.3)

pub small_runs : (low : ℕ) (runs : List Span) → IsRunsFrom low runs → All (λ r. r.start + r.len ≤ 2 ^ 40) runs
small_runs low [] runs = All-nil (λ r. r.start + r.len ≤ 2 ^ 40)
small_runs low (r ∷ rs) runs = All-cons (λ r. r.start + r.len ≤ 2 ^ 40) r rs runs.2 (small_runs (r.start + r.len + 1) rs runs.3)
