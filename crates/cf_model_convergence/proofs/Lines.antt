-- The line from an item of the remote up to the root.
use Rattle.std.proofs.Common.{◌≡◌, ◌<◌, ◌≤◌, ◌+◌, ℕ, zero, suc, Bool, true, false, List, [], ◌∷◌, refl, sym, ◌∙◌, ap, subst, arith, length, eq-eqb}
use Rattle.std.specs.Prelude.{Option, Some, None, ◌||◌, ◌==◌}
use Rattle.std.specs.List.{AllByRecursion, IsDistinct, list_any}
use Rattle.std.proofs.Math.Dec.{eqb}
use Rattle.std.proofs.lemmas.Bool.{eqb-true}
use Rattle.std.proofs.lemmas.Map.Steps.{length-le_from_distinct_below}
use Rattle.cf_base.specs.declared.ids.Rid.{Rid}
use Rattle.cf_model.specs.Growth.{CountsFrom}
use Rattle.cf_model.specs.Store.{Stored, ancestors, stored_at}
use Rattle.cf_model_laws.proofs.RightItems.{no_way}
use Rattle.cf_model_convergence.specs.Tidy.{Reaches}
use Rattle.cf_model_convergence.proofs.TidyItems.{below_next, found_rid}

pub same_rid : (a b : Rid) → a.0 ≡ b.0 → a ≡ b
same_rid a b e = λ i. record { 0 = e i }

pub reaches_at : (items : List Stored) (n : ℕ) (a b : Rid) → a.0 ≡ b.0 → Reaches items n a → Reaches items n b
reaches_at items n a b e h = subst (λ (r : Rid). Reaches items n r) (same_rid a b e) h

pub unlike : (a b : ℕ) → ((a ≡ b) → ⊥) → (a == b) ≡ false
unlike a b h = by (a == b) refl where
  by : (c : Bool) → (a == b) ≡ c → c ≡ false
  by true q = absurd (h (eqb-true a b q))
  by false q = refl

pub one_some : (o : Option Stored) (a b : Stored) → o ≡ Some a → o ≡ Some b → a ≡ b
one_some o a b d e = same (sym d ∙ e) where
  same : Some a ≡ Some b → a ≡ b
  same z = cc

-- an item has one distance to the root
pub one_distance : (items : List Stored) (n m : ℕ) (rid : Rid) → Reaches items n rid → Reaches items m rid → n ≡ m
one_distance items zero zero rid h k = refl
one_distance items zero (suc m) rid h k = absurd (k.0 h)
one_distance items (suc n) zero rid h k = absurd (h.0 k)
one_distance items (suc n) (suc m) rid h k = ap (λ (x : ℕ). suc x) (one_distance items n m h.1.parent h.3 (subst (λ (s : Stored). Reaches items m s.parent) (sym (one_some (stored_at items rid) h.1 k.1 h.2 k.2)) k.3))

-- lines

pub no_line : (fuel : ℕ) (items : List Stored) (rid : Rid) → rid.0 ≡ 1 → ancestors fuel items (stored_at items rid) ≡ []
no_line fuel items rid top = by fuel (stored_at items rid) (λ r e. eq-eqb r.rid.0 1 (found_rid items rid r e ∙ top)) where
  by : (fuel : ℕ) (o : Option Stored) → ((r : Stored) → o ≡ Some r → (r.rid.0 == 1) ≡ true) → ancestors fuel items o ≡ []
  by zero o h = refl
  by (suc fuel) None h = refl
  by (suc fuel) (Some r) h = rw (h r refl) refl

pub line_on : (fuel : ℕ) (items : List Stored) (rid : Rid) (s : Stored) → ((rid.0 ≡ 1) → ⊥) → stored_at items rid ≡ Some s → ancestors (suc fuel) items (stored_at items rid) ≡ s.rid.0 ∷ ancestors fuel items (stored_at items s.parent)
line_on fuel items rid s low found = ap (λ (o : Option Stored). ancestors (suc fuel) items o) found ∙ by (unlike s.rid.0 1 (λ e. low (sym (found_rid items rid s found) ∙ e))) where
  by : (s.rid.0 == 1) ≡ false → ancestors (suc fuel) items (Some s) ≡ s.rid.0 ∷ ancestors fuel items (stored_at items s.parent)
  by e = rw e refl

pub no_more : {A : Type 0} (n : ℕ) → suc n ≤ zero → A
no_more n h = absurd (omega (arith, h))

pub less : (n m : ℕ) → suc n ≤ suc m → n ≤ m
less n m h = omega (arith, h)

-- with enough fuel it is as long as the distance
pub line_length : (items : List Stored) (n fuel : ℕ) (rid : Rid) → Reaches items n rid → n ≤ fuel → length (ancestors fuel items (stored_at items rid)) ≡ n
line_length items zero fuel rid h k = ap (λ (l : List ℕ). length l) (no_line fuel items rid h)
line_length items (suc n) zero rid h k = no_more n k
line_length items (suc n) (suc fuel) rid h k = ap (λ (l : List ℕ). length l) (line_on fuel items rid h.1 h.0 h.2) ∙ ap (λ (x : ℕ). suc x) (line_length items n fuel h.1.parent h.3 (less n fuel k))

-- distances are at most the number of items

abbrev path : (items : List Stored) (n : ℕ) (rid : Rid) → Reaches items n rid → List ℕ
path items zero rid h = []
path items (suc n) rid h = rid.0 ∷ path items n h.1.parent h.3

path_length : (items : List Stored) (n : ℕ) (rid : Rid) (h : Reaches items n rid) → length (path items n rid h) ≡ n
path_length items zero rid h = refl
path_length items (suc n) rid h = ap (λ (x : ℕ). suc x) (path_length items n h.1.parent h.3)

-- what is on a path has a distance of its own, and is not the root
abbrev On : List Stored → ℕ → ℕ → Type 0
On items n q = (m : ℕ) × (suc m ≤ n) × Reaches items (suc m) (record { 0 = q })

on_path : (items : List Stored) (n : ℕ) (rid : Rid) (h : Reaches items n rid) (q : ℕ) → list_any (eqb q) (path items n rid h) ≡ true → On items n q
on_path items zero rid h q e = no_way e
on_path items (suc n) rid h q e = by (eqb q rid.0) refl e (on_path items n h.1.parent h.3 q) where
  self : (n : ℕ) → suc n ≤ suc n
  self n = omega (arith)

  more : (m n : ℕ) → suc m ≤ n → suc m ≤ suc n
  more m n h = omega (arith, h)

  by : (b : Bool) → eqb q rid.0 ≡ b → (b || list_any (eqb q) (path items n h.1.parent h.3)) ≡ true → (list_any (eqb q) (path items n h.1.parent h.3) ≡ true → On items n q) → On items (suc n) q
  by true d e k = (n, self n, reaches_at items (suc n) rid (record { 0 = q }) (sym (eqb-true q rid.0 d)) h)
  by false d e k = let x : On items n q = k e in (x.0, more x.0 n x.1, x.2)

none_equal : (x : ℕ) (xs : List ℕ) → (list_any (eqb x) xs ≡ true → ⊥) → AllByRecursion (λ y. eqb x y ≡ false) xs
none_equal x [] h = tt
none_equal x (y ∷ ys) h = by (eqb x y) refl (none_equal x ys) where
  by : (b : Bool) → eqb x y ≡ b → ((list_any (eqb x) ys ≡ true → ⊥) → AllByRecursion (λ z. eqb x z ≡ false) ys) → (eqb x y ≡ false) × AllByRecursion (λ z. eqb x z ≡ false) ys
  by true e k = absurd (h (rw e refl))
  by false e k = (e, k (λ z. h (rw e z)))

path_distinct : (items : List Stored) (n : ℕ) (rid : Rid) (h : Reaches items n rid) → IsDistinct eqb (path items n rid h)
unfolding IsDistinct
path_distinct items zero rid h = tt
path_distinct items (suc n) rid h = (none_equal rid.0 (path items n h.1.parent h.3) (λ e. let x : On items n rid.0 = on_path items n h.1.parent h.3 rid.0 e in twice x.0 n x.1 (one_distance items (suc n) (suc x.0) rid h x.2)), path_distinct items n h.1.parent h.3) where
  twice : (m n : ℕ) → suc m ≤ n → suc n ≡ suc m → ⊥
  twice m n h e = omega (arith, h, e)

pub few : (items : List Stored) (n : ℕ) (rid : Rid) → CountsFrom 1 items → Reaches items n rid → n ≤ length items
unfolding IsDistinct
few items n rid counted h = fewer n (length items) (subst (λ (k : ℕ). suc k ≤ 1 + length items) (path_length items n rid h) (length-le_from_distinct_below (0 ∷ path items n rid h) (1 + length items) (none_equal 0 (path items n rid h) (λ e. not_first (on_path items n rid h 0 e)), path_distinct items n rid h) (λ q e. by q (eqb q 0) refl e))) where
  fewer : (n m : ℕ) → suc n ≤ 1 + m → n ≤ m
  fewer n m h = omega (arith, h)

  bound : (q : ℕ) → On items n q → (1 ≤ q) × (q < 1 + length items)
  bound q x = below_next 1 items (record { 0 = q }) x.2.1 counted x.2.2

  not_first : On items n 0 → ⊥
  not_first x = let b : 1 ≤ 0 = (bound 0 x).0 in omega (arith, b)

  some : (q m : ℕ) → q ≡ 0 → q < 1 + m
  some q m e = omega (arith, e)

  by : (q : ℕ) (b : Bool) → eqb q 0 ≡ b → (b || list_any (eqb q) (path items n rid h)) ≡ true → q < 1 + length items
  by q true d e = some q (length items) (eqb-true q 0 d)
  by q false d e = (bound q (on_path items n rid h q e)).1

-- more fuel makes no longer line
pub same_line : (items : List Stored) (n f g : ℕ) (rid : Rid) → Reaches items n rid → n ≤ f → n ≤ g → ancestors f items (stored_at items rid) ≡ ancestors g items (stored_at items rid)
same_line items zero f g rid h k l = no_line f items rid h ∙ sym (no_line g items rid h)
same_line items (suc n) zero g rid h k l = no_more n k
same_line items (suc n) (suc f) zero rid h k l = no_more n l
same_line items (suc n) (suc f) (suc g) rid h k l =
    line_on f items rid h.1 h.0 h.2 ∙ ap (λ (xs : List ℕ). h.1.rid.0 ∷ xs) (same_line items n f g h.1.parent h.3 (less n f k) (less n g l)) ∙ sym (line_on g items rid h.1 h.0 h.2)

-- the line of an item is the item and its parent's line
pub line_up_one : (items : List Stored) (n fuel : ℕ) (rid : Rid) (s : Stored) → Reaches items n rid → n ≤ fuel → ((rid.0 ≡ 1) → ⊥) → stored_at items rid ≡ Some s → ancestors fuel items (stored_at items rid) ≡ s.rid.0 ∷ ancestors fuel items (stored_at items s.parent)
line_up_one items zero fuel rid s h k low found = absurd (low h)
line_up_one items (suc n) zero rid s h k low found = no_more n k
line_up_one items (suc n) (suc fuel) rid s h k low found =
    line_on fuel items rid s low found ∙ ap (λ (xs : List ℕ). s.rid.0 ∷ xs) (same_line items n fuel (suc fuel) s.parent (subst (λ (t : Stored). Reaches items n t.parent) (one_some (stored_at items rid) h.1 s h.2 found) h.3) (less n fuel k) (more n fuel (less n fuel k))) where
      more : (n m : ℕ) → n ≤ m → n ≤ suc m
      more n m h = omega (arith, h)
