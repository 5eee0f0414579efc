-- The items below another, level by level.
use Rattle.std.proofs.Common.{◌≡◌, ℕ, zero, suc, ◌+◌, ◌≤◌, ◌<◌, Bool, true, false, cond, List, [], ◌∷◌, refl, sym, ap, subst, ◌∙◌, arith, eqb, Some, None, Option, inl, inr}
use Rattle.std.specs.Cmp.{both_ways}
use Rattle.std.specs.Prelude.{filter, ◌&&◌, ◌||◌}
use Rattle.std.specs.List.{list_any}
use Rattle.std.proofs.lemmas.Bool.{and_from, and_parts, and_right, cases_Bool, eq-eqb, eqb-true, ne_eqb, or_cases, or_from, or_left, or_right}
use Rattle.cf_base.specs.declared.ids.ItemId.{ItemId}
use Rattle.cf_model.specs.Items.{Item, item_of}
use Rattle.cf_model.specs.LookUp.{depth_at, is_below, is_child, is_in_tree_of, item_line, line_up, root_of}
use Rattle.cf_model.specs.Words.{says}
use Rattle.cf_tree.specs.Trees.{IsTree, IsUnder, RiseFrom}
use Rattle.cf_tree.proofs.ChildIds.{is_child_of_any, none_below}
use Rattle.cf_tree.proofs.Depths.{line_step, only, some_of}
use Rattle.cf_tree.proofs.Elements.{Each, any_filtered, each_also, each_there}
use Rattle.cf_tree.proofs.FoundLater.{fewer_rise}
use Rattle.cf_tree.proofs.Heights.{depth_is, line_of_item}
use Rattle.cf_tree.proofs.PlacesFound.{no_parent_of_root}
use Rattle.cf_tree.proofs.Walks.{own_id, root_found, same_item_id}

abbrev pub There : List Item → Item → Type 0
There items i = item_of items i.id ≡ Some i

abbrev pub depth_in : List Item → Item → ℕ
depth_in items i = depth_at items i.id

abbrev pub in_tree : List Item → ItemId → Item → Bool
in_tree items top i = is_in_tree_of items i.id top

-- the item stands in the tree of the other, so deep
abbrev pub stands_at : List Item → ItemId → ℕ → Item → Bool
stands_at items top d i = in_tree items top i && eqb (depth_in items i) d

abbrev pub level : List Item → ItemId → ℕ → List Item
level items top d = filter (stands_at items top d) items

pub level_rises : (items : List Item) (top : ItemId) (d : ℕ) → IsTree items → RiseFrom 1 (level items top d)
level_rises items top d t = fewer_rise (stands_at items top d) 1 items t.order

-- tests that agree on the items that are there

alike_filter : (p q : Item → Bool) (xs : List Item) → Each (λ x. p x ≡ q x) xs → filter p xs ≡ filter q xs
alike_filter p q [] e = refl
alike_filter p q (x ∷ xs) e = λ k. cond (e.0 k) (x ∷ alike_filter p q xs e.1 k) (alike_filter p q xs e.1 k)

pub filter_there : (p q : Item → Bool) (items : List Item) → RiseFrom 1 items → ((i : Item) → There items i → p i ≡ q i) → filter p items ≡ filter q items
filter_there p q items r same = alike_filter p q items (each_also (There items) (λ i. p i ≡ q i) same items (each_there 1 items r))

none_pass : (xs : List Item) → filter (λ _. false) xs ≡ []
none_pass [] = refl
none_pass (x ∷ xs) = none_pass xs

pub none_there : (p : Item → Bool) (items : List Item) → RiseFrom 1 items → ((i : Item) → There items i → p i ≡ false) → filter p items ≡ []
none_there p items r none = filter_there p (λ _. false) items r none ∙ none_pass items

pub only_itself : (low : ℕ) (id : ItemId) (items : List Item) (i : Item) → RiseFrom low items → item_of items id ≡ Some i → filter (λ j. eqb j.id.0 id.0) items ≡ i ∷ []
only_itself low id [] i r e = let z : ◌≡◌ {A = Option Item} None (Some i) = e in absurd cc
only_itself low id (x ∷ xs) i r e = two (eqb x.id.0 id.0) refl e (λ k. only_itself (x.id.0 + 1) id xs i r.1 k) where
  gone : (list : List Item) → item_of list id ≡ None → filter (λ j. eqb j.id.0 id.0) list ≡ []
  gone [] e = refl
  gone (y ∷ ys) e = either (eqb y.id.0 id.0) e (λ k. gone ys k) where
    either : (b : Bool) → cond b (Some y) (item_of ys id) ≡ None → (item_of ys id ≡ None → filter (λ j. eqb j.id.0 id.0) ys ≡ []) → cond b (y ∷ filter (λ j. eqb j.id.0 id.0) ys) (filter (λ j. eqb j.id.0 id.0) ys) ≡ []
    either true k rest = let z : ◌≡◌ {A = Option Item} (Some y) None = k in absurd cc
    either false k rest = rest k

  two : (b : Bool) → eqb x.id.0 id.0 ≡ b → cond b (Some x) (item_of xs id) ≡ Some i → (item_of xs id ≡ Some i → filter (λ j. eqb j.id.0 id.0) xs ≡ i ∷ []) → cond b (x ∷ filter (λ j. eqb j.id.0 id.0) xs) (filter (λ j. eqb j.id.0 id.0) xs) ≡ i ∷ []
  two true h k rest = let own = eqb-true x.id.0 id.0 h in λ q. only x i k q ∷ gone xs (none_below (x.id.0 + 1) id xs r.1 (omega arith)) q
  two false h k rest = rest k

-- a test of the one item with an id
any_one : (low : ℕ) (g : Item → Bool) (id : ItemId) (items : List Item) → RiseFrom low items → list_any (λ j. g j && eqb id.0 j.id.0) items ≡ says g (item_of items id)
any_one low g id [] r = refl
any_one low g id (x ∷ xs) r = two (eqb x.id.0 id.0) refl (any_one (x.id.0 + 1) g id xs r.1) where
  none : (low : ℕ) (list : List Item) → RiseFrom low list → id.0 < low → list_any (λ j. g j && eqb id.0 j.id.0) list ≡ false
  none low [] r lt = refl
  none low (y ∷ ys) r lt = or_from _ _ (and_right (g y) (eqb id.0 y.id.0) (ne_eqb id.0 y.id.0 (λ e. omega (arith, r.0)))) (none (y.id.0 + 1) ys r.1 (omega (arith, r.0)))

  alone : (b c : Bool) → c ≡ true → ((b && c) || false) ≡ b
  alone true true e = refl
  alone false c e = refl
  alone true false e = e

  two : (b : Bool) → eqb x.id.0 id.0 ≡ b → list_any (λ j. g j && eqb id.0 j.id.0) xs ≡ says g (item_of xs id) → ((g x && eqb id.0 x.id.0) || list_any (λ j. g j && eqb id.0 j.id.0) xs) ≡ says g (cond b (Some x) (item_of xs id))
  two true h rest =
      let own : x.id.0 ≡ id.0 = eqb-true x.id.0 id.0 h in
      ap (λ v. (g x && eqb id.0 x.id.0) || v) (none (x.id.0 + 1) xs r.1 (omega arith)) ∙ alone (g x) (eqb id.0 x.id.0) (eq-eqb id.0 x.id.0 (sym own))
  two false h rest =
      ap (λ v. v || list_any (λ j. g j && eqb id.0 j.id.0) xs) (and_right (g x) (eqb id.0 x.id.0) (ne_eqb id.0 x.id.0 (λ e. let z : true ≡ false = sym (eq-eqb x.id.0 id.0 (sym e)) ∙ h in cc))) ∙ rest

pub child_of_level : (items : List Item) (top : ItemId) (d : ℕ) (i : Item) → IsTree items → is_child_of_any (level items top d) i ≡ says (stands_at items top d) (item_of items i.parent)
child_of_level items top d i t = any_filtered (stands_at items top d) (λ j. is_child j.id i) items ∙ any_one 1 (stands_at items top d) i.parent items t.order

-- an item in a tree is no higher than its top, and another one lower

pub no_higher : (e : ℕ) (items : List Item) (i : Item) (top : ItemId) → There items i → IsUnder e items i → list_any (λ k. eqb k top.0) (line_up e items (Some i)) ≡ true → depth_at items top ≤ e
no_higher zero items i top there u any = let z : false ≡ true = any in absurd cc
no_higher (suc e) items i top there u any =
    let p = some_of (item_of items i.parent) (λ p. (p.directory ≡ true) × IsUnder e items p) u.1 in
    let up : There items p.0 = subst (λ v. item_of items v ≡ Some p.0) (own_id items i.parent p.0 p.1) p.1 in
    elim (or_cases (eqb i.id.0 top.0) (list_any (λ k. eqb k top.0) (line_up e items (Some p.0))) (sym (ap (list_any (λ k. eqb k top.0)) (line_step e items i p.0 u.0 p.1)) ∙ any)) [
      | inl own ↦ let same : top ≡ i.id = sym (same_item_id i.id top (eqb-true i.id.0 top.0 own)) in omega (arith, ap (λ (v : ItemId). depth_at items v) same, depth_is items i.id i (suc e) there u)
      | inr more ↦ omega (arith, no_higher e items p.0 top up p.2.1 more)
    ]

pub below_depth : (items : List Item) (i : Item) (top : ItemId) → IsTree items → There items i → is_below items i.id top ≡ true → depth_at items top ≤ depth_in items i
below_depth items i top t there below =
    let s = t.places i.id i there in
    omega (arith, depth_is items i.id i s.depth there s.under, no_higher s.depth items i top there s.under (ap (list_any (λ k. eqb k top.0)) (sym (line_of_item items i.id i s.depth there s.under)) ∙ below))

root_depth : (items : List Item) (top : ItemId) → IsTree items → top.0 ≡ 1 → depth_at items top ≡ 0
root_depth items top t one = depth_is items top (root_of items) 0 (root_found items top one t.root) (sym (ap (λ v. v.0) (own_id items top (root_of items) (root_found items top one t.root))) ∙ one)

pub tree_depth : (items : List Item) (i : Item) (top : ItemId) → IsTree items → There items i → in_tree items top i ≡ true → depth_at items top ≤ depth_in items i
tree_depth items i top t there inside = elim (or_cases (eqb top.0 1) (is_below items i.id top) inside) [
  | inl one ↦ omega (arith, root_depth items top t (eqb-true top.0 1 one))
  | inr below ↦ below_depth items i top t there below
]

-- the items of the next level are the children of those of this one

root_below_none : (items : List Item) (top : ItemId) (d : ℕ) (i : Item) → IsTree items → There items i → i.id.0 ≡ 1 → says (stands_at items top d) (item_of items i.parent) ≡ stands_at items top (suc d) i
root_below_none items top d i t there one =
    let parent : i.parent.0 ≡ 0 = no_parent_of_root items i t.root (only (root_of items) i (sym (root_found items i.id one t.root) ∙ there)) in
    let flat : depth_in items i ≡ 0 = depth_is items i.id i 0 there one in
    ap (says (stands_at items top d)) (none_below 1 i.parent items t.order (omega arith)) ∙ sym (and_right (in_tree items top i) (eqb (depth_in items i) (suc d)) (ne_eqb (depth_in items i) (suc d) (λ e. omega arith)))

next_alike : (items : List Item) (top : ItemId) (d e : ℕ) (i p : Item) → depth_at items top ≤ d → There items i → There items p → IsUnder (suc e) items i → item_of items i.parent ≡ Some p → IsUnder e items p → stands_at items top d p ≡ stands_at items top (suc d) i
next_alike items top d e i p le there up u at v =
    let deep : depth_in items i ≡ suc e = depth_is items i.id i (suc e) there u in
    let high : depth_in items p ≡ e = depth_is items p.id p e up v in
    let line : item_line items i.id ≡ i.id.0 ∷ item_line items p.id =
    line_of_item items i.id i (suc e) there u ∙ line_step e items i p u.0 at ∙ ap (λ l. i.id.0 ∷ l) (sym (line_of_item items p.id p e up v)) in
    elim (cases_Bool (eqb (depth_in items p) d)) [
      | inl hit ↦
          let same : depth_in items p ≡ d = eqb-true (depth_in items p) d hit in
          let other : eqb i.id.0 top.0 ≡ false = ne_eqb i.id.0 top.0 (λ k. omega (arith, ap (λ (v : ItemId). depth_at items v) (same_item_id i.id top k))) in
          (λ k. (eqb top.0 1 || (sym other k || is_below items p.id top)) && hit k) ∙ (λ k. (eqb top.0 1 || list_any (λ n. eqb n top.0) (sym line k)) && sym (eq-eqb (depth_in items i) (suc d) (omega arith)) k)
      | inr miss ↦
          and_right (in_tree items top p) (eqb (depth_in items p) d) miss
          ∙ sym (and_right (in_tree items top i) (eqb (depth_in items i) (suc d)) (ne_eqb (depth_in items i) (suc d) (λ k. let z : true ≡ false = sym (eq-eqb (depth_in items p) d (omega arith)) ∙ miss in cc)))
    ]

next_level_at : (items : List Item) (top : ItemId) (d e : ℕ) (i : Item) → depth_at items top ≤ d → IsTree items → There items i → IsUnder e items i → says (stands_at items top d) (item_of items i.parent) ≡ stands_at items top (suc d) i
next_level_at items top d zero i le t there u = root_below_none items top d i t there u
next_level_at items top d (suc e) i le t there u =
    let p = some_of (item_of items i.parent) (λ p. (p.directory ≡ true) × IsUnder e items p) u.1 in
    let up : There items p.0 = subst (λ v. item_of items v ≡ Some p.0) (own_id items i.parent p.0 p.1) p.1 in
    ap (says (stands_at items top d)) p.1 ∙ next_alike items top d e i p.0 le there up u p.1 p.2.1

pub next_level : (items : List Item) (top : ItemId) (d : ℕ) → depth_at items top ≤ d → IsTree items → filter (is_child_of_any (level items top d)) items ≡ level items top (suc d)
next_level items top d le t = filter_there (is_child_of_any (level items top d)) (stands_at items top (suc d)) items t.order
    (λ i there. let s = t.places i.id i there in child_of_level items top d i t ∙ next_level_at items top d s.depth i le t there s.under)

-- the first level is the item alone

top_itself : (items : List Item) (top : ItemId) (i : Item) → IsTree items → There items i → i.id ≡ top → stands_at items top (depth_at items top) i ≡ true
top_itself items top i t there same =
    let s = t.places i.id i there in
    and_from _ _ (inside s.depth s.under) (eq-eqb (depth_in items i) (depth_at items top) (ap (λ (v : ItemId). depth_at items v) same)) where
      inside : (e : ℕ) → IsUnder e items i → in_tree items top i ≡ true
      inside zero u = or_left _ _ (eq-eqb top.0 1 (ap (λ v. v.0) (sym same) ∙ u))
      inside (suc e) u =
          let p = some_of (item_of items i.parent) (λ p. (p.directory ≡ true) × IsUnder e items p) u.1 in
          or_right _ _ (ap (list_any (λ k. eqb k top.0)) (line_of_item items i.id i (suc e) there u ∙ line_step e items i p.0 u.0 p.1) ∙ or_left _ _ (eq-eqb i.id.0 top.0 (ap (λ v. v.0) same)))

lower_than_top : (e : ℕ) (items : List Item) (top : ItemId) (i : Item) → IsTree items → There items i → IsUnder e items i → in_tree items top i ≡ true → eqb i.id.0 top.0 ≡ false → depth_at items top < e
lower_than_top zero items top i t there u inside other = elim (or_cases (eqb top.0 1) (is_below items i.id top) inside) [
  | inl one ↦ let z : true ≡ false = sym (eq-eqb i.id.0 top.0 (u ∙ sym (eqb-true top.0 1 one))) ∙ other in absurd cc
  | inr below ↦ let z : false ≡ true = sym (ap (list_any (λ k. eqb k top.0)) (line_of_item items i.id i 0 there u)) ∙ below in absurd cc
]
lower_than_top (suc e) items top i t there u inside other =
    let p = some_of (item_of items i.parent) (λ p. (p.directory ≡ true) × IsUnder e items p) u.1 in
    let up : There items p.0 = subst (λ v. item_of items v ≡ Some p.0) (own_id items i.parent p.0 p.1) p.1 in
    elim (or_cases (eqb top.0 1) (is_below items i.id top) inside) [
      | inl one ↦ omega (arith, root_depth items top t (eqb-true top.0 1 one))
      | inr below ↦
          let line : list_any (λ k. eqb k top.0) (i.id.0 ∷ line_up e items (Some p.0)) ≡ true = ap (list_any (λ k. eqb k top.0)) (sym (line_of_item items i.id i (suc e) there u ∙ line_step e items i p.0 u.0 p.1)) ∙ below in
          elim (or_cases (eqb i.id.0 top.0) (list_any (λ k. eqb k top.0) (line_up e items (Some p.0))) line) [
            | inl own ↦ let z : true ≡ false = sym own ∙ other in absurd cc
            | inr more ↦ omega (arith, no_higher e items p.0 top up p.2.1 more)
          ]
    ]

pub first_level : (items : List Item) (top : ItemId) (i : Item) → IsTree items → item_of items top ≡ Some i → level items top (depth_at items top) ≡ i ∷ []
first_level items top i t e =
    filter_there (stands_at items top (depth_at items top)) (λ j. eqb j.id.0 top.0) items t.order
    (λ j there. both_ways (stands_at items top (depth_at items top) j) (eqb j.id.0 top.0) (λ h. itself j there h) (λ h. top_itself items top j t there (same_item_id j.id top (eqb-true j.id.0 top.0 h))))
    ∙ only_itself 1 top items i t.order e where
      itself : (j : Item) → There items j → stands_at items top (depth_at items top) j ≡ true → eqb j.id.0 top.0 ≡ true
      itself j there h = elim (cases_Bool (eqb j.id.0 top.0)) [
        | inl hit ↦ hit
        | inr miss ↦
            let parts = and_parts (in_tree items top j) (eqb (depth_in items j) (depth_at items top)) h in
            let s = t.places j.id j there in
            let lower = lower_than_top s.depth items top j t there s.under parts.0 miss in
            absurd (omega (arith, depth_is items j.id j s.depth there s.under, eqb-true (depth_in items j) (depth_at items top) parts.1))
      ]
