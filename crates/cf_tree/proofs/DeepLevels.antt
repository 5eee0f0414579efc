-- How deep the items below another stand, by whether there is one so many names below it.
use Rattle.std.proofs.Common.{◌≡◌, ℕ, zero, suc, ◌+◌, ◌-◌, ◌≤◌, ◌<◌, Bool, true, false, not, List, [], ◌∷◌, length, refl, sym, ap, subst, ◌∙◌, arith, eqb, ltb, Some, None, Option, inl, inr}
use Rattle.std.specs.Prelude.{filter, ◌||◌}
use Rattle.std.specs.List.{list_any}
use Rattle.std.proofs.lemmas.Bool.{and_from, and_parts, cases_lt, eq-eqb, eqb-true, le-ltb, lt-ltb, or_from, or_right}
use Rattle.std.proofs.lemmas.Bool.Decides.{nat_tests}
use Rattle.cf_base.specs.declared.ids.ItemId.{ItemId}
use Rattle.cf_model.specs.Items.{Item, item_of}
use Rattle.cf_model.specs.LookUp.{depth_at, height_at, is_below, line_up}
use Rattle.cf_model.specs.Words.{is_empty}
use Rattle.cf_table.specs.Tables.{MeansAll}
use Rattle.cf_table.specs.declared.rows.Row.{Row}
use Rattle.cf_tree.specs.Levels.{level_at}
use Rattle.cf_tree.specs.Trees.{IsTree, IsUnder}
use Rattle.cf_tree.proofs.ChildIds.{ids, is_child_of_any}
use Rattle.cf_tree.proofs.Depths.{line_none, line_step, some_of}
use Rattle.cf_tree.proofs.Elements.{Each, each_also, each_filtered, each_there}
use Rattle.cf_tree.proofs.FoundLater.{at_most_greatest, none_pass}
use Rattle.cf_tree.proofs.Heights.{line_of_item, no_greater}
use Rattle.cf_tree.proofs.LevelsBelow.{There, depth_in, first_level, in_tree, level, next_level, none_there, stands_at}
use Rattle.cf_tree.proofs.TreeLevels.{next_ids}
use Rattle.cf_tree.proofs.Walks.{own_id}

levels_down : (n : ℕ) (rows : List Row) (items : List Item) (top : ItemId) (d : ℕ) → MeansAll rows items → IsTree items → depth_at items top ≤ d → level_at n rows (ids (level items top d)) ≡ ids (level items top (d + n))
unfolding level_at
levels_down zero rows items top d m t le = let same : d ≡ d + 0 = omega arith in ap (λ k. ids (level items top k)) same
levels_down (suc n) rows items top d m t le =
    let same : suc d + n ≡ d + suc n = omega arith in ap (λ l. level_at n rows l) (next_ids rows items top d m t le) ∙ levels_down n rows items top (suc d) m t (omega arith) ∙ ap (λ k. ids (level items top k)) same

empty_ids : (list : List Item) → is_empty (ids list) ≡ is_empty list
empty_ids [] = refl
empty_ids (i ∷ is) = refl

pub level_is : (n : ℕ) (rows : List Row) (items : List Item) (top : ItemId) (i : Item) → MeansAll rows items → IsTree items → item_of items top ≡ Some i → is_empty (level_at n rows (top ∷ [])) ≡ is_empty (level items top (depth_at items top + n))
level_is n rows items top i m t e =
    let alone : top ∷ [] ≡ ids (level items top (depth_at items top)) = ap (λ (v : ItemId). v ∷ []) (own_id items top i e) ∙ ap ids (sym (first_level items top i t e)) in
    ap (λ l. is_empty (level_at n rows l)) alone ∙ ap is_empty (levels_down n rows items top (depth_at items top) m t (omega arith)) ∙ empty_ids (level items top (depth_at items top + n))

-- below an empty level there is none

no_next : (items : List Item) (top : ItemId) (d : ℕ) → depth_at items top ≤ d → IsTree items → level items top d ≡ [] → level items top (suc d) ≡ []
no_next items top d le t e = sym (next_level items top d le t) ∙ ap (λ l. filter (is_child_of_any l) items) e ∙ none_there (is_child_of_any []) items t.order (λ i there. refl)

no_later : (k : ℕ) (items : List Item) (top : ItemId) (d : ℕ) → depth_at items top ≤ d → IsTree items → level items top d ≡ [] → level items top (d + k) ≡ []
no_later zero items top d le t e = let same : d + 0 ≡ d = omega arith in ap (λ n. level items top n) same ∙ e
no_later (suc k) items top d le t e = let same : d + suc k ≡ suc d + k = omega arith in ap (λ n. level items top n) same ∙ no_later k items top (suc d) (omega arith) t (no_next items top d le t e)

-- an id that is not there has no line
nothing_above : (items : List Item) (other top : ItemId) → item_of items other ≡ None → is_below items other top ≡ false
nothing_above items other top e = ap (λ o. list_any (λ k. eqb k top.0) (line_up (length items) items o)) e ∙ ap (list_any (λ k. eqb k top.0)) (line_none (length items) items)

stands_below : (items : List Item) (top : ItemId) (j : Item) → is_below items j.id top ≡ true → stands_at items top (depth_in items j) j ≡ true
stands_below items top j below = and_from _ _ (or_right (eqb top.0 1) (is_below items j.id top) below) (eq-eqb (depth_in items j) (depth_in items j) refl)

shallow : (items : List Item) (top : ItemId) (d : ℕ) → depth_at items top ≤ d → IsTree items → level items top d ≡ [] → (other : ItemId) → is_below items other top ≡ true → depth_at items other < d
shallow items top d le t e other below = cases (item_of items other) refl where
  cases : (o : Option Item) → item_of items other ≡ o → depth_at items other < d
  cases None f = let z : false ≡ true = sym (nothing_above items other top f) ∙ below in absurd cc
  cases (Some j) f = elim (cases_lt (depth_at items other) d) [
    | inl lt ↦ lt
    | inr high ↦
        let own : other ≡ j.id = own_id items other j f in
        let sum : d + (depth_at items other - d) ≡ depth_in items j = omega (arith, ap (λ (v : ItemId). depth_at items v) own) in
        let gone : level items top (depth_in items j) ≡ [] = ap (λ n. level items top n) (sym sum) ∙ no_later (depth_at items other - d) items top d le t e in
        let miss : stands_at items top (depth_in items j) j ≡ false = none_pass (λ k. eqb k.id.0 other.0) (stands_at items top (depth_in items j)) items j gone f in
        let z : false ≡ true = sym miss ∙ stands_below items top j (ap (λ (v : ItemId). is_below items v top) (sym own) ∙ below) in absurd cc
  ]

record Stander (items : List Item) (top : ItemId) (d : ℕ) (j : Item) : Type 0 where
  pub there : There items j
  pub stands : stands_at items top d j ≡ true

first_stands : (items : List Item) (top : ItemId) (d : ℕ) (j : Item) (js : List Item) → IsTree items → level items top d ≡ j ∷ js → Stander items top d j
first_stands items top d j js t e =
    (subst (λ l. Each (Stander items top d) l) e
    (each_filtered (Stander items top d) (stands_at items top d) items
    (each_also (There items) (λ k. stands_at items top d k ≡ true → Stander items top d k) (λ k there h. record { there = there; stands = h }) items (each_there 1 items t.order)))).0

pub deep_is : (items : List Item) (id : ItemId) (i : Item) (above : ℕ) → above ≤ 32 → IsTree items → item_of items id ≡ Some i → eqb id.0 1 ≡ false → not (is_empty (level items id (depth_at items id + (32 - above)))) ≡ ltb 32 (above + 1 + height_at items id)
deep_is items id i above le t e other = cases (level items id (depth_at items id + (32 - above))) refl where
  second : (a b : Bool) → a ≡ false → (a || b) ≡ true → b ≡ true
  second true b n h = let z : true ≡ false = n in absurd cc
  second false b n h = h

  cases : (l : List Item) → level items id (depth_at items id + (32 - above)) ≡ l → not (is_empty l) ≡ ltb 32 (above + 1 + height_at items id)
  cases [] f = elim (cases_lt above 32) [
    | inl room ↦
        let low = no_greater (λ j. depth_at items j.id) (λ j. is_below items j.id id) (depth_at items id + (31 - above))
        (λ j below. let lt = shallow items id (depth_at items id + (32 - above)) (omega arith) t f j.id below in omega arith) items in
        sym (le-ltb 32 (above + 1 + height_at items id) (omega arith))
    | inr full ↦
        let same : depth_at items id + (32 - above) ≡ depth_at items id = omega arith in
        let z : i ∷ [] ≡ [] = sym (first_level items id i t e) ∙ ap (λ n. level items id n) (sym same) ∙ f in absurd cc
  ]
  cases (j ∷ js) f =
      let s = first_stands items id (depth_at items id + (32 - above)) j js t f in
      let parts = and_parts (in_tree items id j) (eqb (depth_in items j) (depth_at items id + (32 - above))) s.stands in
      let below : is_below items j.id id ≡ true = second (eqb id.0 1) (is_below items j.id id) other parts.0 in
      let most = at_most_greatest (λ k. depth_at items k.id) (λ k. is_below items k.id id) (λ k. eqb k.id.0 j.id.0) items j s.there below in
      let deep : depth_in items j ≡ depth_at items id + (32 - above) = eqb-true (depth_in items j) (depth_at items id + (32 - above)) parts.1 in
      sym (lt-ltb 32 (above + 1 + height_at items id) (omega arith))

-- the root stands on no line

root_on_none : (d : ℕ) (items : List Item) (j : Item) (top : ItemId) → top.0 ≡ 1 → IsUnder d items j → list_any (λ k. eqb k top.0) (line_up d items (Some j)) ≡ false
root_on_none zero items j top one u = refl
root_on_none (suc d) items j top one u =
    let p = some_of (item_of items j.parent) (λ p. (p.directory ≡ true) × IsUnder d items p) u.1 in
    ap (list_any (λ k. eqb k top.0)) (line_step d items j p.0 u.0 p.1) ∙ or_from _ _ (ap (λ n. eqb j.id.0 n) one ∙ u.0) (root_on_none d items p.0 top one p.2.1)

none_below_root : (items : List Item) (other top : ItemId) → IsTree items → top.0 ≡ 1 → is_below items other top ≡ false
none_below_root items other top t one = cases (item_of items other) refl where
  cases : (o : Option Item) → item_of items other ≡ o → is_below items other top ≡ false
  cases None e = nothing_above items other top e
  cases (Some j) e = let s = t.places other j e in ap (list_any (λ k. eqb k top.0)) (line_of_item items other j s.depth e s.under) ∙ root_on_none s.depth items j top one s.under

pub root_deep : (items : List Item) (id : ItemId) (above : ℕ) → IsTree items → id.0 ≡ 1 → ltb 31 above ≡ ltb 32 (above + 1 + height_at items id)
root_deep items id above t one =
    let low = no_greater (λ j. depth_at items j.id) (λ j. is_below items j.id id) 0 (λ j below. let z : false ≡ true = sym (none_below_root items j.id id t one) ∙ below in absurd cc) items in
    let none : height_at items id ≡ 0 = omega arith in grind (arith, nat_tests)
