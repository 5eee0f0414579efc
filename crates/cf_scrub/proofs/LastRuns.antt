-- The last run that begins by a place.
use Rattle.std.proofs.Common.{◌≡◌, ℕ, zero, suc, ◌+◌, ◌<◌, ◌≤◌, Bool, true, false, ◌||◌, ◌&&◌, List, [], ◌∷◌, length, get_or, refl, sym, ap, ◌∙◌, arith, leb}
use Rattle.std.specs.List.Sorted.{IsPartitionPoint}
use Rattle.std.proofs.lemmas.Bool.{le-leb, leb-true, leb-false}
use Rattle.std.proofs.lemmas.Bool.Decides.{nat_tests}
use Rattle.cf_base.specs.declared.spans.Span.{Span}
use Rattle.cf_ranges.specs.Positions.{IsRuns, IsRunsFrom}
use Rattle.cf_ranges.proofs.Search.{begun}
use Rattle.cf_scrub.specs.Places.{IsLastBegun, spans}
use Rattle.cf_volume_image.proofs.SetTests.{small_at}

none_span : (by to : ℕ) (runs : List Span) (d : Span) → ((k : ℕ) → k < length runs → by < (get_or runs k d).start) → spans runs by to ≡ false
none_span by to [] d h = refl
none_span by to (r ∷ rs) d h = step (leb r.start by) (leb to (r.start + r.len)) (spans rs by to) (above r.start by (h 0 (omega arith))) (none_span by to rs d (λ k less. h (suc k) (omega arith))) where
  step : (a b c : Bool) → a ≡ false → c ≡ false → ((a && b) || c) ≡ false
  step a b c h k = ap (λ v. (v && b) || c) h ∙ k

  above : (n m : ℕ) → m < n → leb n m ≡ false
  above n m h = grind (arith, nat_tests)

from_low : (low j : ℕ) (runs : List Span) (d : Span) → IsRunsFrom low runs → j < length runs → low ≤ (get_or runs j d).start
from_low low j [] d h lt = absurd (omega arith)
from_low low zero (r ∷ rs) d h lt = h.0
from_low low (suc j) (r ∷ rs) d h lt = omega (arith, h.0, from_low (r.start + r.len + 1) j rs d h.3 (omega arith))

ends_last : (low by j to : ℕ) (runs : List Span) (d : Span) → IsRunsFrom low runs → j < length runs → ((k : ℕ) → k ≤ j → (get_or runs k d).start ≤ by)
    → ((k : ℕ) → j < k → k < length runs → by < (get_or runs k d).start) → spans runs by to ≡ leb to ((get_or runs j d).start + (get_or runs j d).len)
ends_last low by j to [] d h lt below above = absurd (omega arith)
ends_last low by zero to (r ∷ rs) d h lt below above =
    step (leb r.start by) (leb to (r.start + r.len)) (spans rs by to) (le-leb r.start by (below 0 (omega arith))) (none_span by to rs d (λ k less. above (suc k) (omega arith) (omega arith))) where
      step : (a b c : Bool) → a ≡ true → c ≡ false → ((a && b) || c) ≡ b
      step true true c h k = refl
      step true false c h k = k
      step false b c h k = let z : false ≡ true = h in absurd cc
ends_last low by (suc j) to (r ∷ rs) d h lt below above =
    step (leb r.start by) (leb to (r.start + r.len)) (spans rs by to) (leb to ((get_or rs j d).start + (get_or rs j d).len))
    (λ t. le-leb _ _ (omega (arith, leb-true _ _ t, from_low (r.start + r.len + 1) j rs d h.3 (omega arith))))
    (ends_last (r.start + r.len + 1) by j to rs d h.3 (omega arith) (λ k le. below (suc k) (omega arith)) (λ k more less. above (suc k) (omega arith) (omega arith))) where
      step : (a b c e : Bool) → (b ≡ true → e ≡ true) → c ≡ e → ((a && b) || c) ≡ e
      step true true c e f k = sym (f refl)
      step true false c e f k = k
      step false b c e f k = k

pub none_begun : (by i : ℕ) (runs : List Span) → IsPartitionPoint (λ (r : Span). leb r.start by ≡ true) (λ (r : Span). leb r.start by ≡ false) runs i → i ≡ 0 → (to : ℕ) → spans runs by to ≡ false
none_begun by i runs point e to = none_span by to runs (record { start = 0; len = 0 }) (λ k less. leb-false _ _ (point.1 k _ (omega arith) less))

pub is_last_begun : (by i j : ℕ) (runs : List Span) (d : Span) → IsRuns runs → i ≤ length runs → IsPartitionPoint (λ (r : Span). leb r.start by ≡ true) (λ (r : Span). leb r.start by ≡ false) runs i → i ≡ j + 1
    → IsLastBegun runs by (get_or runs j d)
is_last_begun by i j runs d h le point e = record {
  begun = begun by i j runs d point e;
  small = small_at 0 runs j d h (omega arith);
  last = λ to. ends_last 0 by j to runs d h (omega arith) (λ k less. leb-true _ _ (point.0 k d (omega arith) (omega arith))) (λ k more less. leb-false _ _ (point.1 k d (omega arith) less));
}
