-- How many blocks have a place of a set, at most.
use Rattle.std.proofs.Common.{◌≡◌, ℕ, zero, suc, ◌+◌, ◌-◌, ◌*◌, ◌/◌, ◌^◌, ◌<◌, ◌≤◌, Bool, true, false, cond, List, [], ◌∷◌, length, get_or, Some, None, refl, sym, ◌∙◌, ap, arith, inl, inr}
use Rattle.std.specs.Prelude.{slice_get}
use Rattle.std.proofs.lemmas.Bool.{cases_lt, true≢false}
use Rattle.std.proofs.lemmas.Option.{none-some, same_Some, slice_get-get_or}
use Rattle.cf_base.specs.declared.spans.Span.{Span}
use Rattle.cf_ranges.specs.Positions.{IsRunsFrom, touched, touches}
use Rattle.cf_volume_changes.proofs.BlocksAhead.{ended}
use Rattle.cf_volume_changes.proofs.LowEnds.{last_high}

-- the last of the runs ends by 2 ^ 40
pub last_small : (low k : ℕ) (runs : List Span) (s : Span) → IsRunsFrom low runs → length runs ≡ suc k → slice_get runs k ≡ Some s → s.start + s.len ≤ 2 ^ 40
last_small low k [] s r e at = absurd (none-some s at)
last_small low zero (x ∷ xs) s r e at = let same = ap (λ (y : Span). y.start + y.len) (same_Some x s at) in omega (arith, same, r.2)
last_small low (suc k) (x ∷ xs) s r e at = last_small (x.start + x.len + 1) k xs s r.3 (omega (arith, e)) at

-- no block behind the last of them has a place
none_past : (low k : ℕ) (runs : List Span) (s : Span) → IsRunsFrom low runs → length runs ≡ suc k → slice_get runs k ≡ Some s → (b : ℕ) → s.start + s.len ≤ 4096 * b → touches runs b ≡ false
none_past low k [] s r e at b past = refl
none_past low zero (x ∷ []) s r e at b past = let same = ap (λ (y : Span). y.start + y.len) (same_Some x s at) in ended x.start x.len b false (omega (arith, same, past))
none_past low zero (x ∷ y ∷ ys) s r e at b past = absurd (omega (arith, e))
none_past low (suc k) (x ∷ xs) s r e at b past =
    let high = last_high (x.start + x.len + 1) k xs s r.3 (omega (arith, e)) at in
    ended x.start x.len b (touches xs b) (omega (arith, high, past)) ∙ none_past (x.start + x.len + 1) k xs s r.3 (omega (arith, e)) at b past

-- where none from a block on has one, there are not more than the blocks before it
few : (runs : List Span) (top : ℕ) → ((b : ℕ) → top ≤ b → touches runs b ≡ false) → (i n : ℕ) → touched runs i n ≤ top - i
few runs top none i zero = omega arith
few runs top none i (suc n) = step (touches runs i) inside (few runs top none (i + 1) n)
  where
    inside : touches runs i ≡ true → i < top
    inside e = elim (cases_lt i top) [ inl low ↦ low | inr high ↦ absurd (true≢false (sym e ∙ none i high)) ]

    step : (t : Bool) → (t ≡ true → i < top) → touched runs (i + 1) n ≤ top - (i + 1) → cond {A = ℕ} t 1 0 + touched runs (i + 1) n ≤ top - i
    step true low rest = let l = low refl in omega (arith, l, rest)
    step false low rest = omega (arith, rest)

pub few_touched : (k : ℕ) (runs : List Span) (s : Span) → IsRunsFrom 0 runs → length runs ≡ suc k → slice_get runs k ≡ Some s → (n : ℕ) → touched runs 0 n ≤ (s.start + s.len + 4095) / 4096
few_touched k runs s r e at n =
    let h = few runs ((s.start + s.len + 4095) / 4096) (λ b le. none_past 0 k runs s r e at b (omega (arith, le))) 0 n in
    omega (arith, h)

pub none_touched : (runs : List Span) → slice_get runs (length runs - 1) ≡ None → (n : ℕ) → touched runs 0 n ≤ 0
none_touched [] e n = let h = few [] 0 (λ b le. refl) 0 n in omega (arith, h)
none_touched (x ∷ xs) e n = absurd (none-some (get_or (x ∷ xs) (length (x ∷ xs) - 1) x) (sym e ∙ slice_get-get_or (x ∷ xs) (length (x ∷ xs) - 1) x (omega arith)))
