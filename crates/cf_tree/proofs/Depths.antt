-- How deep an item stands: fewer names lead to it than there are items.
use Rattle.std.proofs.Common.{◌≡◌, ℕ, zero, suc, ◌≤◌, Bool, true, false, cond, List, [], ◌∷◌, length, refl, sym, ap, subst, ◌∙◌, arith, eqb, Some, None, Option, inl, inr}
use Rattle.std.specs.Prelude.{MatchOption, map, ◌||◌}
use Rattle.std.specs.List.{AllByRecursion, IsDistinct, list_any}
use Rattle.std.proofs.lemmas.Bool.{cond-true, cond-false, eqb-true, eqb-false, eq-eqb, or_cases, or_left, or_parts, or_right, false_from_ne_true}
use Rattle.std.proofs.lemmas.Cmp.{nat_eq_equiv}
use Rattle.std.proofs.lemmas.List.{length-map}
use Rattle.std.proofs.lemmas.Map.Keys.{IsDistinct-cons}
use Rattle.std.proofs.lemmas.Map.Made.{length-le_from_is_member}
use Rattle.cf_model.specs.Items.{Item, item_of}
use Rattle.cf_model.specs.LookUp.{line_up}
use Rattle.cf_tree.specs.Trees.{IsUnder}
use Rattle.cf_tree.proofs.Walks.{own_id, same_item_id}

pub some_of : {A : Type 0} (o : Option A) (Q : A → Type 0) → MatchOption o ⊥ Q → (p : A) × (o ≡ Some p) × Q p
some_of None Q h = absurd h
some_of (Some p) Q h = (p, refl, h)

pub only : {A : Type 0} (x y : A) → ◌≡◌ {A = Option A} (Some x) (Some y) → x ≡ y
only x y e = cc

-- an item has one depth
pub one_depth : (m n : ℕ) (items : List Item) (i : Item) → IsUnder m items i → IsUnder n items i → m ≡ n
one_depth zero zero items i a b = refl
one_depth zero (suc n) items i a b = let z = eqb-false i.id.0 1 b.0 a in absurd z
one_depth (suc m) zero items i a b = let z = eqb-false i.id.0 1 a.0 b in absurd z
one_depth (suc m) (suc n) items i a b =
    let p = some_of (item_of items i.parent) (λ p. (p.directory ≡ true) × IsUnder m items p) a.1 in
    let q = some_of (item_of items i.parent) (λ p. (p.directory ≡ true) × IsUnder n items p) b.1 in
    let same : q.0 ≡ p.0 = only q.0 p.0 (sym q.1 ∙ p.1) in
    ap suc (one_depth m n items p.0 p.2.1 (subst (λ v. IsUnder n items v) same q.2.1))

-- where there is enough fuel, more makes no difference

pub line_root : (m : ℕ) (items : List Item) (i : Item) → i.id.0 ≡ 1 → line_up m items (Some i) ≡ []
line_root zero items i e = refl
line_root (suc m) items i e = cond-true (eqb i.id.0 1) _ _ (eq-eqb i.id.0 1 e)

pub line_none : (m : ℕ) (items : List Item) → line_up m items None ≡ []
line_none zero items = refl
line_none (suc m) items = refl

pub line_under : (d m : ℕ) (items : List Item) (i : Item) → IsUnder d items i → d ≤ m → line_up m items (Some i) ≡ line_up d items (Some i)
line_under zero m items i h le = line_root m items i h
line_under (suc d) zero items i h le = absurd (omega arith)
line_under (suc d) (suc m) items i h le =
    let p = some_of (item_of items i.parent) (λ p. (p.directory ≡ true) × IsUnder d items p) h.1 in
    cond-false (eqb i.id.0 1) _ _ h.0
    ∙ ap (λ o. i.id.0 ∷ line_up m items o) p.1
    ∙ ap (λ l. i.id.0 ∷ l) (line_under d m items p.0 p.2.1 (omega arith))
    ∙ ap (λ o. i.id.0 ∷ line_up d items o) (sym p.1)
    ∙ sym (cond-false (eqb i.id.0 1) _ _ h.0)

pub line_step : (d : ℕ) (items : List Item) (i p : Item) → (eqb i.id.0 1) ≡ false → item_of items i.parent ≡ Some p → line_up (suc d) items (Some i) ≡ i.id.0 ∷ line_up d items (Some p)
line_step d items i p other e = cond-false (eqb i.id.0 1) _ _ other ∙ ap (λ o. i.id.0 ∷ line_up d items o) e

pub line_depth : (d : ℕ) (items : List Item) (i : Item) → IsUnder d items i → length (line_up d items (Some i)) ≡ d
line_depth zero items i h = refl
line_depth (suc d) items i h =
    let p = some_of (item_of items i.parent) (λ p. (p.directory ≡ true) × IsUnder d items p) h.1 in
    ap length (line_step d items i p.0 h.0 p.1) ∙ ap suc (line_depth d items p.0 p.2.1)

-- each id of a line is that of an item, which stands no deeper
pub record OnLine (items : List Item) (d q : ℕ) : Type 0 where
  pub item : Item
  pub id : item.id.0 ≡ q
  pub there : item_of items item.id ≡ Some item
  pub depth : ℕ
  pub above : depth ≤ d
  pub under : IsUnder depth items item

pub on_line : (d : ℕ) (items : List Item) (i : Item) (q : ℕ) → IsUnder d items i → item_of items i.id ≡ Some i → list_any (eqb q) (line_up d items (Some i)) ≡ true → OnLine items d q
on_line zero items i q h there any = let z : false ≡ true = any in absurd cc
on_line (suc d) items i q h there any =
    let p = some_of (item_of items i.parent) (λ p. (p.directory ≡ true) × IsUnder d items p) h.1 in
    let own : i.parent ≡ p.0.id = own_id items i.parent p.0 p.1 in
    let any2 : list_any (eqb q) (i.id.0 ∷ line_up d items (Some p.0)) ≡ true = subst (λ l. list_any (eqb q) l ≡ true) (line_step d items i p.0 h.0 p.1) any in
    elim (or_cases (eqb q i.id.0) (list_any (eqb q) (line_up d items (Some p.0))) any2) [
      | inl hit ↦ record { item = i; id = sym (eqb-true q i.id.0 hit); there = there; depth = suc d; above = omega arith; under = h }
      | inr more ↦ let o = on_line d items p.0 q p.2.1 (subst (λ v. item_of items v ≡ Some p.0) own p.1) more in
          record { item = o.item; id = o.id; there = o.there; depth = o.depth; above = omega (arith, o.above); under = o.under }
    ]

pub none_equal : {K : Type 0} (eq : K → K → Bool) (x : K) (ys : List K) → list_any (eq x) ys ≡ false → AllByRecursion (λ y. eq x y ≡ false) ys
none_equal eq x [] h = tt
none_equal eq x (y ∷ ys) h = let parts = or_parts (eq x y) (list_any (eq x) ys) h in (parts.0, none_equal eq x ys parts.1)

deeper : (d : ℕ) (items : List Item) (i : Item) → IsUnder (suc d) items i → item_of items i.id ≡ Some i → OnLine items d i.id.0 → ⊥
deeper d items i h there o =
    let same : o.item ≡ i = only o.item i (sym o.there ∙ ap (λ v. item_of items v) (same_item_id o.item.id i.id o.id) ∙ there) in
    let e : o.depth ≡ suc d = one_depth o.depth (suc d) items i (subst (λ v. IsUnder o.depth items v) same o.under) h in
    omega (arith, o.above)

line_distinct : (d : ℕ) (items : List Item) (i : Item) → IsUnder d items i → item_of items i.id ≡ Some i → IsDistinct eqb (line_up d items (Some i))
unfolding IsDistinct
line_distinct zero items i h there = tt
line_distinct (suc d) items i h there =
    let p = some_of (item_of items i.parent) (λ p. (p.directory ≡ true) × IsUnder d items p) h.1 in
    let own : i.parent ≡ p.0.id = own_id items i.parent p.0 p.1 in
    let up : item_of items p.0.id ≡ Some p.0 = subst (λ v. item_of items v ≡ Some p.0) own p.1 in
    subst (λ l. IsDistinct eqb l) (sym (line_step d items i p.0 h.0 p.1))
    (IsDistinct-cons eqb i.id.0 (line_up d items (Some p.0)) (none_equal eqb i.id.0 (line_up d items (Some p.0)) (false_from_ne_true _ (λ any. deeper d items i h there (on_line d items p.0 i.id.0 p.2.1 up any))))
    (line_distinct d items p.0 p.2.1 up))

-- an item that is there is among the ids
id_listed : (items : List Item) (i : Item) → item_of items i.id ≡ Some i → list_any (eqb i.id.0) (map (λ j. j.id.0) items) ≡ true
id_listed [] i e = let z : ◌≡◌ {A = Option Item} None (Some i) = e in absurd cc
id_listed (x ∷ xs) i e = two (eqb x.id.0 i.id.0) refl (λ k. id_listed xs i k) e where
  two : (b : Bool) → eqb x.id.0 i.id.0 ≡ b → (item_of xs i.id ≡ Some i → list_any (eqb i.id.0) (map (λ j. j.id.0) xs) ≡ true) → cond b (Some x) (item_of xs i.id) ≡ Some i →
      (eqb i.id.0 x.id.0 || list_any (eqb i.id.0) (map (λ j. j.id.0) xs)) ≡ true
  two true h rest k = or_left _ _ (eq-eqb i.id.0 x.id.0 (sym (eqb-true x.id.0 i.id.0 h)))
  two false h rest k = or_right _ _ (rest k)

pub few_names : (d : ℕ) (items : List Item) (i : Item) → IsUnder d items i → item_of items i.id ≡ Some i → d ≤ length items
few_names d items i h there =
    let le : length (line_up d items (Some i)) ≤ length (map (λ j. j.id.0) items) =
    length-le_from_is_member nat_eq_equiv (line_up d items (Some i)) (map (λ j. j.id.0) items) (line_distinct d items i h there)
    (λ q any. let o = on_line d items i q h there any in subst (λ v. list_any (eqb v) (map (λ j. j.id.0) items) ≡ true) o.id (id_listed items o.item o.there)) in
    omega (arith, line_depth d items i h, length-map items (λ j. j.id.0))
