-- A binary search for the run that may reach into a span.
use Rattle.std.proofs.Common.{◌≡◌, ℕ, zero, suc, ◌+◌, ◌-◌, ◌<◌, ◌≤◌, Bool, true, false, ◌||◌, List, [], ◌∷◌, length, get_or, max, min, refl, ap, ◌∙◌, arith, leb}
use Rattle.std.specs.Prelude.{nat_lt}
use Rattle.std.specs.List.Sorted.{IsNonDecreasingBy, IsPartitionedBy, IsPartitionPoint}
use Rattle.std.proofs.lemmas.Bool.{leb-true, leb-false}
use Rattle.std.proofs.lemmas.Bool.Decides.{nat_tests}
use Rattle.std.proofs.lemmas.List.Sorted.{IsPartitionedBy-leb}
use Rattle.cf_base.specs.declared.spans.Span.{Span}
use Rattle.cf_ask_rule.specs.Sights.{meets}
use Rattle.cf_ranges.specs.Positions.{IsRuns, IsRunsFrom}

pub from_low : (low j : ℕ) (runs : List Span) (d : Span) → IsRunsFrom low runs → j < length runs → low ≤ (get_or runs j d).start
from_low low j [] d h lt = absurd (omega arith)
from_low low zero (r ∷ rs) d h lt = h.0
from_low low (suc j) (r ∷ rs) d h lt = omega (arith, h.0, from_low (r.start + r.len + 1) j rs d h.3 (omega arith))

starts_rise : (low : ℕ) (runs : List Span) → IsRunsFrom low runs → IsNonDecreasingBy (λ (r : Span). r.start) runs
starts_rise low [] h i j d le lt = absurd (omega arith)
starts_rise low (r ∷ rs) h zero zero d le lt = omega arith
starts_rise low (r ∷ rs) h zero (suc j) d le lt = omega (arith, from_low (r.start + r.len + 1) j rs d h.3 (omega arith))
starts_rise low (r ∷ rs) h (suc i) zero d le lt = absurd (omega arith)
starts_rise low (r ∷ rs) h (suc i) (suc j) d le lt = starts_rise (r.start + r.len + 1) rs h.3 i j d (omega arith) (omega arith)

pub parted : (at : ℕ) (runs : List Span) → IsRuns runs → IsPartitionedBy (λ (r : Span). leb r.start at) runs
parted at runs h = IsPartitionedBy-leb (λ (r : Span). r.start) runs at (starts_rise 0 runs h)

behind : (u n s e at : ℕ) (b : Bool) → e ≡ at + 1 → at < u → (nat_lt (max u s) (min (u + n) e) || b) ≡ b
behind u n s e at true h k = grind (arith, nat_tests)
behind u n s e at false h k = grind (arith, nat_tests)

none_begun : (s e at : ℕ) (runs : List Span) (d : Span) → e ≡ at + 1 → ((k : ℕ) → k < length runs → at < (get_or runs k d).start) → meets runs s e ≡ false
none_begun s e at [] d h above = refl
none_begun s e at (r ∷ rs) d h above = behind r.start r.len s e at (meets rs s e) h (above 0 (omega arith)) ∙ none_begun s e at rs d h (λ k l. above (suc k) (omega arith))

last_one : (u n s e at : ℕ) → e ≡ at + 1 → s < e → u ≤ at → 0 < n → (nat_lt (max u s) (min (u + n) e) || false) ≡ (nat_lt s u || nat_lt (s - u) n)
last_one u n s e at h k l m = grind (arith, nat_tests)

-- an earlier run reaches no farther than the last one
earlier : (u n v m s e at : ℕ) → e ≡ at + 1 → s < e → v ≤ at → 0 < n → 0 < m → u + n + 1 ≤ v → (nat_lt (max u s) (min (u + n) e) || (nat_lt s v || nat_lt (s - v) m)) ≡ (nat_lt s v || nat_lt (s - v) m)
earlier u n v m s e at h k l o p q = grind (arith, nat_tests)

some_len : (low j : ℕ) (runs : List Span) (d : Span) → IsRunsFrom low runs → j < length runs → 0 < (get_or runs j d).len
some_len low j [] d h lt = absurd (omega arith)
some_len low zero (r ∷ rs) d h lt = h.1
some_len low (suc j) (r ∷ rs) d h lt = some_len (r.start + r.len + 1) j rs d h.3 (omega arith)

meets_at : (low s e at j : ℕ) (runs : List Span) (d : Span) → IsRunsFrom low runs → e ≡ at + 1 → s < e → j < length runs → ((k : ℕ) → k ≤ j → (get_or runs k d).start ≤ at)
    → ((k : ℕ) → j < k → k < length runs → at < (get_or runs k d).start) → meets runs s e ≡ (nat_lt s (get_or runs j d).start || nat_lt (s - (get_or runs j d).start) (get_or runs j d).len)
meets_at low s e at j [] d h g k lt below above = absurd (omega arith)
meets_at low s e at zero (r ∷ rs) d h g k lt below above =
    ap (λ b. nat_lt (max r.start s) (min (r.start + r.len) e) || b) (none_begun s e at rs d g (λ i less. above (suc i) (omega arith) (omega arith))) ∙ last_one r.start r.len s e at g k (below 0 (omega arith)) h.1
meets_at low s e at (suc j) (r ∷ rs) d h g k lt below above =
    ap (λ b. nat_lt (max r.start s) (min (r.start + r.len) e) || b) (meets_at (r.start + r.len + 1) s e at j rs d h.3 g k (omega arith) (λ i le. below (suc i) (omega arith)) (λ i more less. above (suc i) (omega arith) (omega arith)))
    ∙ earlier r.start r.len (get_or rs j d).start (get_or rs j d).len s e at g k (below (suc j) (omega arith)) h.1 (some_len (r.start + r.len + 1) j rs d h.3 (omega arith)) (from_low (r.start + r.len + 1) j rs d h.3 (omega arith))

-- what the place that a search by the starts gives says
pub point_none : (s e at i : ℕ) (runs : List Span) → e ≡ at + 1 → IsPartitionPoint (λ (r : Span). leb r.start at ≡ true) (λ (r : Span). leb r.start at ≡ false) runs i → i ≡ 0 → meets runs s e ≡ false
point_none s e at i runs g point z = none_begun s e at runs (record { start = 0; len = 0 }) g (λ k less. leb-false _ _ (point.1 k _ (omega arith) less))

pub point_some : (s e at i j : ℕ) (runs : List Span) (d : Span) → IsRuns runs → e ≡ at + 1 → s < e → i ≤ length runs
    → IsPartitionPoint (λ (r : Span). leb r.start at ≡ true) (λ (r : Span). leb r.start at ≡ false) runs i → i ≡ j + 1 → meets runs s e ≡ (nat_lt s (get_or runs j d).start || nat_lt (s - (get_or runs j d).start) (get_or runs j d).len)
point_some s e at i j runs d h g k le point z = meets_at 0 s e at j runs d h g k (omega arith) (λ k less. leb-true _ _ (point.0 k d (omega arith) (omega arith))) (λ k more less. leb-false _ _ (point.1 k d (omega arith) less))

empty_one : (u n s e : ℕ) (b : Bool) → e ≤ s → (nat_lt (max u s) (min (u + n) e) || b) ≡ b
empty_one u n s e true h = grind (arith, nat_tests)
empty_one u n s e false h = grind (arith, nat_tests)

pub meets_none : (runs : List Span) (s e : ℕ) → e ≤ s → meets runs s e ≡ false
meets_none [] s e h = refl
meets_none (r ∷ rs) s e h = empty_one r.start r.len s e (meets rs s e) h ∙ meets_none rs s e h
