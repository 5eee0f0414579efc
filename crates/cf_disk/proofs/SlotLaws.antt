-- How the slots of pages go on.
use Rattle.std.proofs.Common.{◌≡◌, ℕ, zero, suc, ◌+◌, ◌-◌, ◌<◌, ◌≤◌, set, List, [], ◌∷◌, ◌++◌, length, get_or, replicate, refl, ◌∙◌, ap, arith}
use Rattle.cf_disk.specs.Fronts.{filled}
use Rattle.cf_disk.specs.Keeping.{free, in_slot}

-- a slot that is used is no longer free
pub free_set : (slots : List ℕ) (p k : ℕ) → p < length slots → get_or slots p 0 ≡ 0 → suc (free (set slots p (suc k))) ≡ free slots
free_set [] p k lt is = absurd (omega arith)
free_set (zero ∷ slots) zero k lt is = refl
free_set (suc n ∷ slots) zero k lt is = absurd (omega arith)
free_set (zero ∷ slots) (suc p) k lt is = ap suc (free_set slots p k (omega arith) is)
free_set (suc n ∷ slots) (suc p) k lt is = free_set slots p k (omega arith) is

free_zeros : (n : ℕ) → free (replicate n 0) ≡ n
free_zeros zero = refl
free_zeros (suc n) = ap suc (free_zeros n)

free_append : (xs ys : List ℕ) → free (xs ++ ys) ≡ free xs + free ys
free_append [] ys = omega arith
free_append (zero ∷ xs) ys = omega (arith, free_append xs ys)
free_append (suc n ∷ xs) ys = free_append xs ys

pub free_filled : (n : ℕ) (slots : List ℕ) → free (filled n 0 slots) ≡ free slots + (n - length slots)
free_filled n slots = free_append slots (replicate (n - length slots) 0) ∙ ap (λ (k : ℕ). free slots + k) (free_zeros (n - length slots))

pub free_most : (slots : List ℕ) → free slots ≤ length slots
free_most [] = omega arith
free_most (zero ∷ slots) = omega (arith, free_most slots)
free_most (suc n ∷ slots) = omega (arith, free_most slots)

-- what a slot shows
module _ {X : Type 0} (pool : ℕ → ℕ → X) where
  -- what is there now is not looked at where there is a slot
  pub in_slot_now : (s : ℕ) (now then : X) (at : ℕ) → (s ≡ 0 → now ≡ then) → in_slot pool s now at ≡ in_slot pool s then at
  in_slot_now zero now then at same = same refl
  in_slot_now (suc k) now then at same = refl

  pub in_slot_free : (s : ℕ) (now : X) (at : ℕ) → s ≡ 0 → in_slot pool s now at ≡ now
  in_slot_free zero now at is = refl
  in_slot_free (suc k) now at is = absurd (omega arith)

  pub in_slot_used : (s k : ℕ) (now : X) (at : ℕ) → s ≡ suc k → in_slot pool s now at ≡ pool k at
  in_slot_used zero k now at is = absurd (omega arith)
  in_slot_used (suc n) k now at is = let same : n ≡ k = omega arith in ap (λ (m : ℕ). pool m at) same

  -- what a slot shows of a pool that changed elsewhere is the same
  pub in_slot_same : (more : ℕ → ℕ → X) (s : ℕ) (now : X) (at : ℕ) → ((k : ℕ) → s ≡ suc k → more k at ≡ pool k at) → in_slot more s now at ≡ in_slot pool s now at
  in_slot_same more zero now at same = refl
  in_slot_same more (suc k) now at same = same k refl
