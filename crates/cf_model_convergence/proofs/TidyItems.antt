-- Tests of requests, and items of the remote by their rids.
use Rattle.std.proofs.Common.{◌≡◌, ◌<◌, ◌≤◌, ◌+◌, ℕ, suc, Bool, true, false, List, [], ◌∷◌, ◌++◌, refl, sym, subst, arith, length, map, eq-eqb}
use Rattle.std.specs.Prelude.{Option, Some, None, cond, nat_lt, ◌||◌, ◌==◌}
use Rattle.std.proofs.lemmas.Bool.{eqb-true}
use Rattle.std.proofs.lemmas.Bool.Decides.{nat_tests}
use Rattle.cf_base.specs.declared.ids.Rid.{Rid}
use Rattle.cf_model.specs.Growth.{CountsFrom}
use Rattle.cf_model.specs.Store.{Stored, stored_at}
use Rattle.cf_model.specs.Words.{says}
use Rattle.cf_model_laws.specs.Invariant.{All}
use Rattle.cf_model_laws.proofs.Gathered.{all_any, all_found, all_weaker}
use Rattle.cf_model_laws.proofs.RightItems.{no_way, no_way_back}

-- tests

pub or_left_false : (a b : Bool) → (a || b) ≡ false → a ≡ false
or_left_false true b e = no_way_back e
or_left_false false b e = refl

pub none_first : {A : Type 0} (b : Bool) (x : A) (rest : Option A) → cond b (Some x) rest ≡ None → (b ≡ false) × (rest ≡ None)
none_first true x rest e = absurd (w e) where
  w : Some x ≡ None → ⊥
  w z = cc
none_first false x rest e = (refl, e)

pub small : (n k : ℕ) → nat_lt k n ≡ false → n ≤ k
small n k h = grind (arith, nat_tests, h)

-- items by rid

pub found_rid : (items : List Stored) (rid : Rid) (r : Stored) → stored_at items rid ≡ Some r → r.rid.0 ≡ rid.0
found_rid items rid r e = eqb-true r.rid.0 rid.0 (all_found (λ s. Unit {0}) (λ s. s.rid.0 == rid.0) items r e (all_any (λ s. Unit {0}) (λ s. tt) items)).1

-- what a test says of the item that is found
pub said : {A : Type 0} (f : A → Bool) (o : Option A) → says f o ≡ true → (x : A) × (o ≡ Some x) × (f x ≡ true)
said f None h = no_way h
said f (Some r) h = (r, refl, h)

pub below_next : (n : ℕ) (ss : List Stored) (rid : Rid) (r : Stored) → CountsFrom n ss → stored_at ss rid ≡ Some r → (n ≤ rid.0) × (rid.0 < n + length ss)
below_next n [] rid r c e = absurd (w e) where
  w : None ≡ Some r → ⊥
  w z = cc
below_next n (s ∷ ss) rid r c e = by (s.rid.0 == rid.0) refl e (below_next (n + 1) ss rid r c.1) where
  here : (a b n k : ℕ) → a ≡ n → a ≡ b → (n ≤ b) × (b < n + suc k)
  here a b n k d e = (omega (arith, d, e), omega (arith, d, e))

  there : (b n k : ℕ) → (n + 1 ≤ b) × (b < n + 1 + k) → (n ≤ b) × (b < n + suc k)
  there b n k h = let x : n + 1 ≤ b = h.0 in let y : b < n + 1 + k = h.1 in (omega (arith, x), omega (arith, y))

  by : (b : Bool) → (s.rid.0 == rid.0) ≡ b → cond b (Some s) (stored_at ss rid) ≡ Some r → (stored_at ss rid ≡ Some r → (n + 1 ≤ rid.0) × (rid.0 < n + 1 + length ss)) → (n ≤ rid.0) × (rid.0 < n + suc (length ss))
  by true q e g = here s.rid.0 rid.0 n (length ss) c.0 (eqb-true s.rid.0 rid.0 q)
  by false q e g = there rid.0 n (length ss) (g e)

-- each is found under its rid
pub each_found : (n : ℕ) (ss : List Stored) → CountsFrom n ss → All (λ s. stored_at ss s.rid ≡ Some s) ss
each_found n [] c = tt
each_found n (s ∷ ss) c = (rw (eq-eqb s.rid.0 s.rid.0 refl) refl, all_weaker (λ t. stored_at ss t.rid ≡ Some t) (λ t. stored_at (s ∷ ss) t.rid ≡ Some t) (λ t e. later t e (below_next (n + 1) ss t.rid t c.1 e)) ss (each_found (n + 1) ss c.1)) where
  differ : (a b n : ℕ) → a ≡ n → n + 1 ≤ b → (a == b) ≡ false
  differ a b n e h = one (a == b) refl where
    one : (c : Bool) → (a == b) ≡ c → c ≡ false
    one true q = let z : a ≡ b = eqb-true a b q in absurd (omega (arith, z, e, h))
    one false q = refl

  later : (t : Stored) → stored_at ss t.rid ≡ Some t → (n + 1 ≤ t.rid.0) × (t.rid.0 < n + 1 + length ss) → stored_at (s ∷ ss) t.rid ≡ Some t
  later t e k = rw (differ s.rid.0 t.rid.0 n c.0 k.0) e

-- what is found before is found with more behind it
pub found_more : (f : Stored → Bool) (ss more : List Stored) (rid : Rid) → says f (stored_at ss rid) ≡ true → says f (stored_at (ss ++ more) rid) ≡ true
found_more f [] more rid h = no_way h
found_more f (s ∷ ss) more rid h = by (s.rid.0 == rid.0) h (found_more f ss more rid) where
  by : (b : Bool) → says f (cond b (Some s) (stored_at ss rid)) ≡ true → (says f (stored_at ss rid) ≡ true → says f (stored_at (ss ++ more) rid) ≡ true) → says f (cond b (Some s) (stored_at (ss ++ more) rid)) ≡ true
  by true h g = h
  by false h g = g h

-- and where each is changed but for its rid and what is tested
pub found_mapped : (f : Stored → Bool) (g : Stored → Stored) (rid : Rid) → ((s : Stored) → (g s).rid.0 ≡ s.rid.0) → ((s : Stored) → s.rid.0 ≡ rid.0 → f s ≡ true → f (g s) ≡ true) → (ss : List Stored) → says f (stored_at ss rid) ≡ true → says f (stored_at (map g ss) rid) ≡ true
found_mapped f g rid same test [] h = h
found_mapped f g rid same test (s ∷ ss) h =
    subst (λ (n : ℕ). says f (cond (n == rid.0) (Some (g s)) (stored_at (map g ss) rid)) ≡ true) (sym (same s)) (by (s.rid.0 == rid.0) refl h (found_mapped f g rid same test ss)) where
      by : (b : Bool) → (s.rid.0 == rid.0) ≡ b → says f (cond b (Some s) (stored_at ss rid)) ≡ true → (says f (stored_at ss rid) ≡ true → says f (stored_at (map g ss) rid) ≡ true) → says f (cond b (Some (g s)) (stored_at (map g ss) rid)) ≡ true
      by true q h k = test s (eqb-true s.rid.0 rid.0 q) h
      by false q h k = k h
