-- In a tree each item comes after its parent.
use Rattle.std.proofs.Common.{◌≡◌, ℕ, zero, suc, ◌≤◌, ◌<◌, Bool, true, false, cond, not, List, [], ◌∷◌, refl, sym, ap, subst, ◌∙◌, arith, eqb, ltb, Some, inl, inr}
use Rattle.std.specs.Prelude.{filter, ◌&&◌, ◌||◌}
use Rattle.std.specs.List.{list_any}
use Rattle.std.proofs.lemmas.Bool.{and_from, cases_Bool, eq-eqb, eqb-false, eqb-true, lt-ltb, ne_eqb, not_from_false, or_from, or_left, or_right}
use Rattle.cf_base.specs.declared.ids.ItemId.{ItemId}
use Rattle.cf_model.specs.Items.{Item, item_of}
use Rattle.cf_model.specs.LookUp.{depth_at, is_below, is_in_tree_of, item_line, tree_of}
use Rattle.cf_tree.specs.Trees.{IsTree, IsUnder}
use Rattle.cf_tree.proofs.Depths.{line_step, only, some_of}
use Rattle.cf_tree.proofs.Heights.{depth_is, line_of_item}
use Rattle.cf_tree.proofs.Stable.{Rises, sorted_rises}
use Rattle.cf_tree.proofs.Walks.{own_id, same_item_id}
use Rattle.cf_tree.proofs.Elements.{Each, any_filtered, any_found, any_sorted, each_also, each_filtered, each_sorted, each_there}
use Rattle.cf_item_rules.proofs.Inheriting.{IsCovered, lower_parent}

abbrev pub depth_in : List Item → Item → ℕ
depth_in items i = depth_at items i.id

abbrev pub in_tree : List Item → ItemId → Item → Bool
in_tree items top i = is_in_tree_of items i.id top

abbrev pub There : List Item → Item → Type 0
There items j = item_of items j.id ≡ Some j

-- the items of a tree are there, and in it
pub each_in_tree : (items : List Item) (top : ItemId) → IsTree items → Each (λ j. There items j × (in_tree items top j ≡ true)) (tree_of items top)
each_in_tree items top t =
    each_sorted _ _ _ (each_filtered (λ j. There items j × (in_tree items top j ≡ true)) (in_tree items top) items
    (each_also (There items) (λ j. in_tree items top j ≡ true → There items j × (in_tree items top j ≡ true)) (λ j there inside. (there, inside)) items (each_there 1 items t.order)))

-- the parent of an item below the top
pub record HasParent (items : List Item) (top : ItemId) (j : Item) : Type 0 where
  pub item : Item
  pub there : item_of items j.parent ≡ Some item
  pub inside : in_tree items top item ≡ true
  pub lower : lower_parent (depth_in items) j item ≡ true

-- what stands on the line of an item other than that stands on its parent's
passed_on : (d : ℕ) (items : List Item) (top : ItemId) (j p : Item) → IsUnder (suc d) items j → item_of items j.parent ≡ Some p → There items j → There items p → IsUnder d items p → (eqb j.id.0 top.0) ≡ false → is_below items j.id top ≡ true → is_below items p.id top ≡ true
passed_on d items top j p h up there parent_there under other below =
    let line : item_line items j.id ≡ j.id.0 ∷ item_line items p.id =
    line_of_item items j.id j (suc d) there h ∙ line_step d items j p h.0 up ∙ ap (λ l. j.id.0 ∷ l) (sym (line_of_item items p.id p d parent_there under)) in
    second (eqb j.id.0 top.0) (list_any (λ k. eqb k top.0) (item_line items p.id)) other (ap (list_any (λ k. eqb k top.0)) (sym line) ∙ below) where
      second : (a b : Bool) → a ≡ false → (a || b) ≡ true → b ≡ true
      second true b n e = let z : true ≡ false = n in absurd cc
      second false b n e = e

inside_too : (d : ℕ) (items : List Item) (top : ItemId) (j p : Item) → IsUnder (suc d) items j → item_of items j.parent ≡ Some p → There items j → There items p → IsUnder d items p → (eqb j.id.0 top.0) ≡ false → in_tree items top j ≡ true → in_tree items top p ≡ true
inside_too d items top j p h up there parent_there under other inside = two (eqb top.0 1) inside (λ below. passed_on d items top j p h up there parent_there under other below) where
  two : (b : Bool) → (b || is_below items j.id top) ≡ true → (is_below items j.id top ≡ true → is_below items p.id top ≡ true) → (b || is_below items p.id top) ≡ true
  two true e rest = refl
  two false e rest = rest e

root_outside : (items : List Item) (top : ItemId) (j : Item) → There items j → j.id.0 ≡ 1 → in_tree items top j ≡ true → (eqb j.id.0 top.0) ≡ false → ⊥
root_outside items top j there one inside other =
    let top_other : eqb top.0 1 ≡ false = ne_eqb top.0 1 (λ e. eqb-false j.id.0 top.0 other (one ∙ sym e)) in
    let none : is_below items j.id top ≡ false = ap (list_any (λ k. eqb k top.0)) (line_of_item items j.id j 0 there one) in
    let z : false ≡ true = sym (or_from _ _ top_other none) ∙ inside in cc

parent_under : (d : ℕ) (items : List Item) (top : ItemId) (j : Item) → IsUnder d items j → IsTree items → There items j → in_tree items top j ≡ true → (eqb j.id.0 top.0) ≡ false → HasParent items top j
parent_under zero items top j h t there inside other = absurd (root_outside items top j there h inside other)
parent_under (suc d) items top j h t there inside other =
    let p = some_of (item_of items j.parent) (λ p. (p.directory ≡ true) × IsUnder d items p) h.1 in
    let own : j.parent ≡ p.0.id = own_id items j.parent p.0 p.1 in
    let up : There items p.0 = subst (λ v. item_of items v ≡ Some p.0) own p.1 in
    let lower : depth_in items p.0 < depth_in items j = omega (arith, depth_is items p.0.id p.0 d up p.2.1, depth_is items j.id j (suc d) there h) in
    record {
      item = p.0;
      there = p.1;
      inside = inside_too d items top j p.0 h p.1 there up p.2.1 other inside;
      lower = and_from _ _ (eq-eqb p.0.id.0 j.parent.0 (ap (λ v. v.0) (sym own))) (lt-ltb (depth_in items p.0) (depth_in items j) lower);
    }

pub parent_in_tree : (items : List Item) (top : ItemId) (j : Item) → IsTree items → There items j → in_tree items top j ≡ true → (eqb j.id.0 top.0) ≡ false → HasParent items top j
parent_in_tree items top j t there inside other = let s = t.places j.id j there in parent_under s.depth items top j s.under t there inside other

-- each item of a tree is its top, or comes after its parent

pub covered : (items : List Item) (top : ItemId) (i : Item) → IsTree items → item_of items top ≡ Some i → Each (IsCovered (depth_in items) (i.parent.0 ∷ []) (tree_of items top)) (tree_of items top)
covered items top i t e = each_also _ _ (λ j h. one j h.0 h.1) (tree_of items top) (each_in_tree items top t) where
  one : (j : Item) → There items j → in_tree items top j ≡ true → IsCovered (depth_in items) (i.parent.0 ∷ []) (tree_of items top) j
  one j there inside = elim (cases_Bool (eqb j.id.0 top.0)) [
    | inl hit ↦
        let id : j.id ≡ top = same_item_id j.id top (eqb-true j.id.0 top.0 hit) in
        let same : j ≡ i = only j i (sym there ∙ ap (λ v. item_of items v) id ∙ e) in
        or_left _ _ (or_left _ _ (eq-eqb j.parent.0 i.parent.0 (ap (λ v. v.parent.0) same)))
    | inr miss ↦
        let p = parent_in_tree items top j t there inside miss in
        or_right _ _
        (any_sorted (λ a b. ltb (depth_at items a.id) (depth_at items b.id)) (lower_parent (depth_in items) j) (filter (in_tree items top) items) ∙ any_filtered (in_tree items top) (lower_parent (depth_in items) j) items
        ∙ any_found (λ k. eqb k.id.0 j.parent.0) (λ k. in_tree items top k && lower_parent (depth_in items) j k) items p.item p.there (and_from _ _ p.inside p.lower))
  ]

-- the same below the top alone

abbrev pub is_other : ItemId → Item → Bool
is_other top j = not (eqb j.id.0 top.0)

pub covered_below : (items : List Item) (top : ItemId) → IsTree items → Each (IsCovered (depth_in items) (top.0 ∷ []) (filter (is_other top) (tree_of items top))) (filter (is_other top) (tree_of items top))
covered_below items top t = each_filtered _ (is_other top) (tree_of items top) (each_also _ _ (λ j h other. one j h.0 h.1 other) (tree_of items top) (each_in_tree items top t)) where
  is_not : (b : Bool) → not b ≡ true → b ≡ false
  is_not true e = let z : false ≡ true = e in absurd cc
  is_not false e = refl

  one : (j : Item) → There items j → in_tree items top j ≡ true → is_other top j ≡ true → IsCovered (depth_in items) (top.0 ∷ []) (filter (is_other top) (tree_of items top)) j
  one j there inside other =
      let p = parent_in_tree items top j t there inside (is_not _ other) in
      let own : j.parent ≡ p.item.id = own_id items j.parent p.item p.there in
      elim (cases_Bool (eqb p.item.id.0 top.0)) [
        | inl hit ↦ or_left _ _ (or_left _ _ (eq-eqb j.parent.0 top.0 (ap (λ v. v.0) own ∙ eqb-true p.item.id.0 top.0 hit)))
        | inr miss ↦
            or_right _ _
            (any_filtered (is_other top) (lower_parent (depth_in items) j) (tree_of items top)
            ∙ any_sorted (λ a b. ltb (depth_at items a.id) (depth_at items b.id)) (λ k. is_other top k && lower_parent (depth_in items) j k) (filter (in_tree items top) items)
            ∙ any_filtered (in_tree items top) (λ k. is_other top k && lower_parent (depth_in items) j k) items
            ∙ any_found (λ k. eqb k.id.0 j.parent.0) (λ k. in_tree items top k && (is_other top k && lower_parent (depth_in items) j k)) items p.item p.there
            (and_from _ _ p.inside (and_from _ _ (not_from_false _ miss) p.lower)))
      ]

-- by depth

pub tree_rises : (items : List Item) (top : ItemId) → Rises (depth_in items) 0 (tree_of items top)
tree_rises items top = sorted_rises (depth_in items) (filter (in_tree items top) items)

lower_start : (key : Item → ℕ) (low high : ℕ) (list : List Item) → low ≤ high → Rises key high list → Rises key low list
lower_start key low high [] le r = tt
lower_start key low high (x ∷ xs) le r = (omega (arith, r.0), r.1)

pub filter_rises : (key : Item → ℕ) (g : Item → Bool) (low : ℕ) (list : List Item) → Rises key low list → Rises key low (filter g list)
filter_rises key g low [] r = tt
filter_rises key g low (x ∷ xs) r = two (g x) (filter_rises key g (key x) xs r.1) where
  two : (b : Bool) → Rises key (key x) (filter g xs) → Rises key low (cond b (x ∷ filter g xs) (filter g xs))
  two true rest = (r.0, rest)
  two false rest = lower_start key low (key x) (filter g xs) r.0 rest
