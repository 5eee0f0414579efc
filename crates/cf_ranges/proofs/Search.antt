-- A binary search for the run that may have a position.
use Rattle.std.proofs.Common.{◌≡◌, ℕ, zero, suc, ◌+◌, ◌-◌, ◌*◌, ◌<◌, ◌≤◌, Bool, true, false, ◌&&◌, ◌||◌, List, [], ◌∷◌, length, get_or, refl, sym, ap, ◌∙◌, arith, ltb, leb}
use Rattle.std.specs.Prelude.{nat_lt}
use Rattle.std.specs.List.Sorted.{IsNonDecreasingBy, IsPartitionedBy, IsPartitionPoint}
use Rattle.std.proofs.lemmas.Bool.{leb-true, leb-false}
use Rattle.std.proofs.lemmas.Bool.Decides.{nat_tests}
use Rattle.std.proofs.lemmas.List.Sorted.{IsPartitionedBy-leb}
use Rattle.cf_base.specs.declared.spans.Span.{Span}
use Rattle.cf_ranges.specs.Positions.{within, in_span, contains, touches, IsRunsFrom, IsRuns}
use Rattle.cf_ranges.proofs.Sets.{none_below}

pub from_low : (low j : ℕ) (runs : List Span) (d : Span) → IsRunsFrom low runs → j < length runs → low ≤ (get_or runs j d).start
from_low low j [] d h lt = absurd (omega arith)
from_low low zero (r ∷ rs) d h lt = h.0
from_low low (suc j) (r ∷ rs) d h lt = omega (arith, h.0, from_low (r.start + r.len + 1) j rs d h.3 (omega arith))

starts_rise : (low : ℕ) (runs : List Span) → IsRunsFrom low runs → IsNonDecreasingBy (λ (r : Span). r.start) runs
starts_rise low [] h i j d le lt = absurd (omega arith)
starts_rise low (r ∷ rs) h zero zero d le lt = omega arith
starts_rise low (r ∷ rs) h zero (suc j) d le lt = omega (arith, from_low (r.start + r.len + 1) j rs d h.3 (omega arith))
starts_rise low (r ∷ rs) h (suc i) zero d le lt = absurd (omega arith)
starts_rise low (r ∷ rs) h (suc i) (suc j) d le lt = starts_rise (r.start + r.len + 1) rs h.3 i j d (omega arith) (omega arith)

pub parted : (at : ℕ) (runs : List Span) → IsRuns runs → IsPartitionedBy (λ (r : Span). leb r.start at) runs
parted at runs h = IsPartitionedBy-leb (λ (r : Span). r.start) runs at (starts_rise 0 runs h)

none_begun : (low at : ℕ) (runs : List Span) (d : Span) → IsRunsFrom low runs → ((k : ℕ) → k < length runs → at < (get_or runs k d).start) → contains runs at ≡ false
none_begun low at [] d h above = refl
none_begun low at (r ∷ rs) d h above = none_below at r.start (r ∷ rs) (above 0 (omega arith)) (omega arith, h.1, h.2, h.3)

or_false : (v : Bool) → (v || false) ≡ v
or_false true = refl
or_false false = refl

ended : (from to at : ℕ) (v : Bool) → to ≤ at → (within from to at || v) ≡ v
ended from to at true h = grind (arith, nat_tests)
ended from to at false h = grind (arith, nat_tests)

found_at : (low at j : ℕ) (runs : List Span) (d : Span) → IsRunsFrom low runs → j < length runs → ((k : ℕ) → k ≤ j → (get_or runs k d).start ≤ at)
    → ((k : ℕ) → j < k → k < length runs → at < (get_or runs k d).start) → contains runs at ≡ in_span (get_or runs j d) at
found_at low at j [] d h lt below above = absurd (omega arith)
found_at low at zero (r ∷ rs) d h lt below above =
    ap (λ v. in_span r at || v) (none_begun (r.start + r.len + 1) at rs d h.3 (λ k less. above (suc k) (omega arith) (omega arith))) ∙ or_false (in_span r at)
found_at low at (suc j) (r ∷ rs) d h lt below above =
    ended r.start (r.start + r.len) at (contains rs at) (omega (arith, from_low (r.start + r.len + 1) j rs d h.3 (omega arith), below (suc j) (omega arith)))
    ∙ found_at (r.start + r.len + 1) at j rs d h.3 (omega arith) (λ k le. below (suc k) (omega arith)) (λ k more less. above (suc k) (omega arith) (omega arith))

-- what the place that a search by the starts gives says
pub point_none : (at i : ℕ) (runs : List Span) → IsRuns runs → IsPartitionPoint (λ (r : Span). leb r.start at ≡ true) (λ (r : Span). leb r.start at ≡ false) runs i → i ≡ 0 → contains runs at ≡ false
point_none at i runs h point e = none_begun 0 at runs (record { start = 0; len = 0 }) h (λ k less. leb-false _ _ (point.1 k _ (omega arith) less))

pub begun : (at i j : ℕ) (runs : List Span) (d : Span) → IsPartitionPoint (λ (r : Span). leb r.start at ≡ true) (λ (r : Span). leb r.start at ≡ false) runs i → i ≡ j + 1 → (get_or runs j d).start ≤ at
begun at i j runs d point e = leb-true _ _ (point.0 j d (omega arith) (omega arith))

pub point_some : (at i j : ℕ) (runs : List Span) (d : Span) → IsRuns runs → i ≤ length runs
    → IsPartitionPoint (λ (r : Span). leb r.start at ≡ true) (λ (r : Span). leb r.start at ≡ false) runs i → i ≡ j + 1 → ltb (at - (get_or runs j d).start) (get_or runs j d).len ≡ contains runs at
point_some at i j runs d h le point e =
    inside (get_or runs j d).start (get_or runs j d).len at (begun at i j runs d point e)
    ∙ sym (found_at 0 at j runs d h (omega arith) (λ k less. leb-true _ _ (point.0 k d (omega arith) (omega arith))) (λ k more less. leb-false _ _ (point.1 k d (omega arith) less))) where
      inside : (start len at : ℕ) → start ≤ at → ltb (at - start) len ≡ within start (start + len) at
      inside start len at h = grind (arith, nat_tests)

-- the last run that begins by the end of a block

behind : (u n b at : ℕ) (v : Bool) → at ≡ 4096 * b + 4095 → at < u → ((nat_lt u (4096 * b + 4096) && nat_lt (4096 * b) (u + n)) || v) ≡ v
behind u n b at true e h = grind (arith, nat_tests)
behind u n b at false e h = grind (arith, nat_tests)

untouched : (b at : ℕ) (runs : List Span) (d : Span) → at ≡ 4096 * b + 4095 → ((k : ℕ) → k < length runs → at < (get_or runs k d).start) → touches runs b ≡ false
untouched b at [] d e above = refl
untouched b at (r ∷ rs) d e above = behind r.start r.len b at (touches rs b) e (above 0 (omega arith)) ∙ untouched b at rs d e (λ k l. above (suc k) (omega arith))

last_one : (u n b at : ℕ) → at ≡ 4096 * b + 4095 → u ≤ at → 0 < n → ((nat_lt u (4096 * b + 4096) && nat_lt (4096 * b) (u + n)) || false) ≡ (nat_lt (4096 * b) u || nat_lt (4096 * b - u) n)
last_one u n b at e h k = grind (arith, nat_tests)

-- an earlier run reaches no farther than the last one
earlier : (u n v m b at : ℕ) → at ≡ 4096 * b + 4095 → v ≤ at → 0 < m → u + n + 1 ≤ v → ((nat_lt u (4096 * b + 4096) && nat_lt (4096 * b) (u + n)) || (nat_lt (4096 * b) v || nat_lt (4096 * b - v) m)) ≡ (nat_lt (4096 * b) v || nat_lt (4096 * b - v) m)
earlier u n v m b at e h k l = grind (arith, nat_tests)

some_len : (low j : ℕ) (runs : List Span) (d : Span) → IsRunsFrom low runs → j < length runs → 0 < (get_or runs j d).len
some_len low j [] d h lt = absurd (omega arith)
some_len low zero (r ∷ rs) d h lt = h.1
some_len low (suc j) (r ∷ rs) d h lt = some_len (r.start + r.len + 1) j rs d h.3 (omega arith)

touched_at : (low b at j : ℕ) (runs : List Span) (d : Span) → IsRunsFrom low runs → at ≡ 4096 * b + 4095 → j < length runs → ((k : ℕ) → k ≤ j → (get_or runs k d).start ≤ at)
    → ((k : ℕ) → j < k → k < length runs → at < (get_or runs k d).start) → touches runs b ≡ (nat_lt (4096 * b) (get_or runs j d).start || nat_lt (4096 * b - (get_or runs j d).start) (get_or runs j d).len)
touched_at low b at j [] d h e lt below above = absurd (omega arith)
touched_at low b at zero (r ∷ rs) d h e lt below above =
    ap (λ v. (nat_lt r.start (4096 * b + 4096) && nat_lt (4096 * b) (r.start + r.len)) || v) (untouched b at rs d e (λ k less. above (suc k) (omega arith) (omega arith))) ∙ last_one r.start r.len b at e (below 0 (omega arith)) h.1
touched_at low b at (suc j) (r ∷ rs) d h e lt below above =
    ap (λ v. (nat_lt r.start (4096 * b + 4096) && nat_lt (4096 * b) (r.start + r.len)) || v) (touched_at (r.start + r.len + 1) b at j rs d h.3 e (omega arith) (λ k le. below (suc k) (omega arith)) (λ k more less. above (suc k) (omega arith) (omega arith)))
    ∙ earlier r.start r.len (get_or rs j d).start (get_or rs j d).len b at e (below (suc j) (omega arith)) (some_len (r.start + r.len + 1) j rs d h.3 (omega arith)) (from_low (r.start + r.len + 1) j rs d h.3 (omega arith))

pub touched_none : (b at i : ℕ) (runs : List Span) → at ≡ 4096 * b + 4095 → IsPartitionPoint (λ (r : Span). leb r.start at ≡ true) (λ (r : Span). leb r.start at ≡ false) runs i → i ≡ 0 → touches runs b ≡ false
touched_none b at i runs e point z = untouched b at runs (record { start = 0; len = 0 }) e (λ k less. leb-false _ _ (point.1 k _ (omega arith) less))

pub touched_some : (b at i j : ℕ) (runs : List Span) (d : Span) → IsRuns runs → at ≡ 4096 * b + 4095 → i ≤ length runs
    → IsPartitionPoint (λ (r : Span). leb r.start at ≡ true) (λ (r : Span). leb r.start at ≡ false) runs i → i ≡ j + 1 → touches runs b ≡ (nat_lt (4096 * b) (get_or runs j d).start || nat_lt (4096 * b - (get_or runs j d).start) (get_or runs j d).len)
touched_some b at i j runs d h e le point z = touched_at 0 b at j runs d h e (omega arith) (λ k less. leb-true _ _ (point.0 k d (omega arith) (omega arith))) (λ k more less. leb-false _ _ (point.1 k d (omega arith) less))
