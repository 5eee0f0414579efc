-- Runs that are left for blocks that rise.
use Rattle.std.proofs.Common.{◌≡◌, ℕ, suc, ◌+◌, ◌-◌, ◌*◌, ◌<◌, ◌≤◌, Bool, true, false, ◌&&◌, ◌||◌, List, [], ◌∷◌, length, get_or, drop, refl, sym, subst, ◌∙◌, arith, drop-cons}
use Rattle.std.specs.Prelude.{nat_lt}
use Rattle.std.proofs.lemmas.Bool.Decides.{nat_tests}
use Rattle.cf_base.specs.declared.spans.Span.{Span}
use Rattle.cf_ranges.specs.Positions.{IsRuns, IsRunsFrom, touches}
use Rattle.cf_volume_changes.specs.Ahead.{EndsPast, IsAhead}

-- runs from a place on are runs
runs_after : (low : ℕ) (runs : List Span) → IsRunsFrom low runs → IsRuns runs
runs_after low [] h = tt
runs_after low (r ∷ rs) h = (omega arith, h.1, h.2, h.3)

-- a run that ends by the start of the block does not touch it
pub ended : (u n b : ℕ) (v : Bool) → u + n ≤ 4096 * b → ((nat_lt u (4096 * b + 4096) && nat_lt (4096 * b) (u + n)) || v) ≡ v
ended u n b true h = grind (arith, nat_tests)
ended u n b false h = grind (arith, nat_tests)

-- a run that ends by the place is passed
passed : (place : ℕ) (all : List Span) (r : Span) (rs : List Span) → r.start + r.len ≤ place → IsAhead place all (r ∷ rs) → IsAhead place all rs
passed place all r rs ends h = record {
  runs = runs_after (r.start + r.len + 1) rs h.runs.3;
  same = λ b at. sym (ended r.start r.len b (touches rs b) (omega (arith, ends, at))) ∙ h.same b at;
}

-- a run that does not reach the place ends by it
not_reached : (u n place : ℕ) → (nat_lt place u || nat_lt (place - u) n) ≡ false → u + n ≤ place
not_reached u n place h = grind (arith, nat_tests)

pub ahead_next : (place i : ℕ) (all : List Span) (d : Span) → i < length all → (nat_lt place (get_or all i d).start || nat_lt (place - (get_or all i d).start) (get_or all i d).len) ≡ false → IsAhead place all (drop i all) → IsAhead place all (drop (i + 1) all)
ahead_next place i all d lt miss h =
    let next : suc i ≡ i + 1 = omega arith in
    subst (λ (n : ℕ). IsAhead place all (drop n all)) next
    (passed place all (get_or all i d) (drop (suc i) all) (not_reached _ _ place miss) (subst (λ (l : List Span). IsAhead place all l) (drop-cons all i d lt) h))

-- runs that begin behind the block do not touch it
behind : (b low : ℕ) (runs : List Span) → 4096 * b + 4096 ≤ low → IsRunsFrom low runs → touches runs b ≡ false
behind b low [] le h = refl
behind b low (r ∷ rs) le h = later r.start r.len b (touches rs b) (omega (arith, le, h.0)) (behind b (r.start + r.len + 1) rs (omega (arith, le, h.0)) h.3) where
  later : (u n b : ℕ) (v : Bool) → 4096 * b + 4096 ≤ u → v ≡ false → ((nat_lt u (4096 * b + 4096) && nat_lt (4096 * b) (u + n)) || v) ≡ false
  later u n b v h e = grind (arith, nat_tests)

-- where the first run ends past the start of the block, its own start decides
pub first_decides : (b : ℕ) (runs : List Span) (d : Span) → 1 ≤ length runs → IsRuns runs → EndsPast (4096 * b) runs → nat_lt (get_or runs 0 d).start (4096 * b + 4096) ≡ touches runs b
first_decides b [] d some h past = absurd (omega arith)
first_decides b (r ∷ rs) d some h past = by r.start r.len (touches rs b) past (λ from. behind b (r.start + r.len + 1) rs (omega (arith, from)) h.3) where
  by : (u n : ℕ) (v : Bool) → 4096 * b < u + n → (4096 * b + 4096 ≤ u → v ≡ false) → nat_lt u (4096 * b + 4096) ≡ ((nat_lt u (4096 * b + 4096) && nat_lt (4096 * b) (u + n)) || v)
  by u n true past none = grind (arith, nat_tests)
  by u n false past none = grind (arith, nat_tests)
