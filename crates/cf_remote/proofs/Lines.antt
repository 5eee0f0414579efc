-- The way from an item up to the root, step by step.
use Rattle.std.proofs.Common.{◌≡◌, ℕ, zero, suc, ◌+◌, List, ◌∷◌, length, refl, ap, subst, arith, ◌==◌}
use Rattle.std.specs.Prelude.{Option, Some, None}
use Rattle.std.specs.List.{list_any}
use Rattle.std.proofs.lemmas.Bool.{ne_eqb}
use Rattle.cf_model.specs.Store.{Stored, ancestors, stored_at}

pub line_more : (fuel less : ℕ) (items : List Stored) (o : Option Stored) (s : Stored) → o ≡ Some s → (s.rid.0 ≡ 1 → ⊥) → fuel ≡ less + 1
    → ancestors fuel items o ≡ s.rid.0 ∷ ancestors less items (stored_at items s.parent)
line_more zero less items o s e k f = absurd (omega arith)
line_more (suc fuel) less items None s e k f = cc
line_more (suc fuel) less items (Some t) s e k f = one (let i : s ≡ t = cc in i) (let j : fuel ≡ less = omega arith in j) where
  one : s ≡ t → fuel ≡ less → ancestors (suc fuel) items (Some t) ≡ s.rid.0 ∷ ancestors less items (stored_at items s.parent)
  one i j = subst (λ (x : Stored). ancestors (suc fuel) items (Some x) ≡ s.rid.0 ∷ ancestors less items (stored_at items s.parent)) i
      (rw (ne_eqb s.rid.0 1 k) (ap (λ (n : ℕ). s.rid.0 ∷ ancestors n items (stored_at items s.parent)) j))

-- the steps of the loops

pub depth_more : (fuel less n total : ℕ) (items : List Stored) (o : Option Stored) (s : Stored) → n + length (ancestors fuel items o) ≡ total → o ≡ Some s → (s.rid.0 ≡ 1 → ⊥) → fuel ≡ less + 1
    → n + 1 + length (ancestors less items (stored_at items s.parent)) ≡ total
depth_more fuel less n total items o s h e k f = omega (arith, h, ap length (line_more fuel less items o s e k f))

pub under_more : (fuel less : ℕ) (items : List Stored) (o : Option Stored) (s : Stored) (top : ℕ) → o ≡ Some s → (s.rid.0 ≡ 1 → ⊥) → fuel ≡ less + 1 → (s.rid.0 ≡ top → ⊥)
    → list_any (λ r. r == top) (ancestors less items (stored_at items s.parent)) ≡ list_any (λ r. r == top) (ancestors fuel items o)
under_more fuel less items o s top e k f t = rw (line_more fuel less items o s e k f, ne_eqb s.rid.0 top t) refl
