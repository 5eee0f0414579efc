-- Runs that end before a span or begin behind it say nothing of what of it is missing.
use Rattle.std.proofs.Common.{◌≡◌, ℕ, zero, suc, ◌+◌, ◌-◌, ◌<◌, ◌≤◌, List, [], ◌∷◌, ◌++◌, length, drop, get_or, max, min, refl, sym, ap, ◌∙◌, arith, leb, true, false}
use Rattle.std.specs.List.Sorted.{IsPartitionPoint}
use Rattle.std.proofs.lemmas.Bool.{cond-false, le-ltb}
use Rattle.std.proofs.lemmas.List.{drop_all}
use Rattle.cf_base.specs.declared.spans.Span.{Span}
use Rattle.cf_ranges.specs.Positions.{IsRunsFrom, IsRuns}
use Rattle.cf_ranges.specs.Steps.{piece, missing_of}
use Rattle.cf_ranges.proofs.Loops.{next}
use Rattle.cf_ranges.proofs.Search.{begun, from_low}
use Rattle.cf_ranges.proofs.Sets.{lower}

before : (u e at end : ℕ) (rs : List Span) → u ≤ at → e ≤ at → missing_of at end rs ≡ piece at (min u end) (missing_of (max at e) end rs)
before u e at end rs h k = sym (cond-false _ _ _ (le-ltb _ _ low) ∙ ap (λ v. missing_of v end rs) high) where
  low : min u end ≤ at
  low = omega (arith, h)

  high : max at e ≡ at
  high = omega (arith, k)

skip : (low at end j : ℕ) (runs : List Span) (d : Span) → IsRunsFrom low runs → j < length runs → (get_or runs j d).start ≤ at → missing_of at end (drop j runs) ≡ missing_of at end runs
skip low at end j [] d h lt b = absurd (omega arith)
skip low at end zero (r ∷ rs) d h lt b = refl
skip low at end (suc j) (r ∷ rs) d h lt b =
    skip (r.start + r.len + 1) at end j rs d h.3 (omega arith) b ∙ before r.start (r.start + r.len) at end rs (omega (arith, reach)) (omega (arith, reach)) where
      reach : r.start + r.len + 1 ≤ (get_or rs j d).start
      reach = from_low (r.start + r.len + 1) j rs d h.3 (omega arith)

runs_left : (low j : ℕ) (runs : List Span) → IsRunsFrom low runs → IsRunsFrom 0 (drop j runs)
runs_left low zero runs h = lower 0 low runs (omega arith) h
runs_left low (suc j) [] h = tt
runs_left low (suc j) (r ∷ rs) h = runs_left (r.start + r.len + 1) j rs h.3

pub near : (at i j : ℕ) (runs : List Span) → IsRuns runs → i ≤ length runs → IsPartitionPoint (λ (r : Span). leb r.start at ≡ true) (λ (r : Span). leb r.start at ≡ false) runs i → j ≡ i - 1 → (end : ℕ) → missing_of at end (drop j runs) ≡ missing_of at end runs
near at zero j runs h le point e end = ap (λ v. missing_of at end (drop v runs)) none where
  none : j ≡ 0
  none = omega (arith, e)
near at (suc i) j runs h le point e end =
    ap (λ v. missing_of at end (drop v runs)) same ∙ skip 0 at end i runs (record { start = 0; len = 0 }) h (omega arith) (begun at (suc i) i runs (record { start = 0; len = 0 }) point (omega arith)) where
      same : j ≡ i
      same = omega (arith, e)

pub near_are_runs : (i : ℕ) (runs : List Span) → IsRuns runs → IsRuns (drop i runs)
near_are_runs i runs h = runs_left 0 i runs h

past : (at end : ℕ) (runs : List Span) → end ≤ at → missing_of at end runs ≡ []
past at end [] h = cond-false _ _ _ (le-ltb _ _ h)
past at end (r ∷ rs) h = cond-false _ _ _ (le-ltb _ _ low) ∙ past (max at (r.start + r.len)) end rs (omega (arith, h)) where
  low : min r.start end ≤ at
  low = omega (arith, h)

pub behind : (at end : ℕ) (r : Span) (rs : List Span) → end ≤ r.start → missing_of at end (r ∷ rs) ≡ piece at end []
behind at end r rs h =
    ap (λ v. piece at v (missing_of (max at (r.start + r.len)) end rs)) least ∙ ap (λ v. piece at end v) (past (max at (r.start + r.len)) end rs (omega (arith, h))) where
      least : min r.start end ≡ end
      least = omega (arith, h)

-- what is left once no run is, or once the next one begins behind
pub no_more : (at end i : ℕ) (runs out all : List Span) → length runs ≤ i → out ++ missing_of at end (drop i runs) ≡ all → out ++ piece at end [] ≡ all
no_more at end i runs out all le h = ap (λ v. out ++ missing_of at end v) (sym (drop_all i runs le)) ∙ h

pub none_near : (at end i : ℕ) (runs out all : List Span) (d : Span) → i < length runs → end ≤ (get_or runs i d).start → out ++ missing_of at end (drop i runs) ≡ all → out ++ piece at end [] ≡ all
none_near at end i runs out all d lt le h = ap (λ v. out ++ v) (sym (ap (missing_of at end) (next i runs d lt) ∙ behind at end (get_or runs i d) (drop (i + 1) runs) le)) ∙ h
