-- Items trimmed one by one.
use Rattle.std.proofs.Common.{◌≡◌, ℕ, zero, suc, ◌+◌, ◌-◌, ◌<◌, ◌≤◌, Bool, true, false, cond, List, [], ◌∷◌, ◌++◌, drop, get_or, length, map, set, take, refl, sym, ap, ◌∙◌, arith}
use Rattle.std.specs.Prelude.{Some, max, sum_by}
use Rattle.std.proofs.Math.Nat.{le-max_left}
use Rattle.std.proofs.lemmas.List.Sums.{sum_by-cons}
use Rattle.cf_model.specs.Store.{Stored, trimmed}
use Rattle.cf_remote.specs.Held.{held_len}
use Rattle.cf_remote.proofs.VersionLens.{dropped_rest}

set_one : (f : Stored → Stored) (start : List Stored) (place : ℕ) (d : Stored) → place < length start
    → set (map f (take place start) ++ drop place start) place (f (get_or (map f (take place start) ++ drop place start) place d)) ≡ map f (take (suc place) start) ++ drop (suc place) start
set_one f [] place d lt = absurd (omega arith)
set_one f (s ∷ ss) zero d lt = refl
set_one f (s ∷ ss) (suc k) d lt = ap (λ (ts : List Stored). f s ∷ ts) (set_one f ss k d (omega arith))

-- one more item is changed
pub set_more : (f : Stored → Stored) (start items : List Stored) (place more : ℕ) (d : Stored) → more ≡ suc place → place < length start → items ≡ map f (take place start) ++ drop place start
    → set items place (f (get_or items place d)) ≡ map f (take more start) ++ drop more start
set_more f start items place more d m lt e =
    ap (λ (ts : List Stored). set ts place (f (get_or ts place d))) e ∙ set_one f start place d lt ∙ ap (λ (n : ℕ). map f (take n start) ++ drop n start) (sym m)

-- and so is the sum
pub sum_set : (g : Stored → ℕ) (items : List Stored) (place : ℕ) (d x : Stored) → place < length items → sum_by g (set items place x) + g (get_or items place d) ≡ sum_by g items + g x
sum_set g [] place d x lt = absurd (omega arith)
sum_set g (s ∷ ss) zero d x lt = omega (arith, sum_by-cons g x ss, sum_by-cons g s ss)
sum_set g (s ∷ ss) (suc k) d x lt = omega (arith, sum_set g ss k d x (omega arith), sum_by-cons g s (set ss k x), sum_by-cons g s ss)

-- with a later least version no more is held
later_held : (s : Stored) (n : ℕ) → s.least ≤ n → held_len (record s { least = n }) ≤ held_len s
later_held s n le = omega (arith, dropped_rest s.versions (s.least - 1) (n - 1) (omega (arith, le)))

pub trimmed_held : (count : ℕ) (s : Stored) → held_len (trimmed (Some count) s) ≤ held_len s
trimmed_held count s = one s.directory where
  one : (b : Bool) → held_len (cond b s (record s { least = max s.least (length s.versions + 1 - count) })) ≤ held_len s
  one true = omega arith
  one false = later_held s (max s.least (length s.versions + 1 - count)) (le-max_left s.least (length s.versions + 1 - count))
