-- What is set on the items of a reach is what the definitions set.
use Rattle.std.proofs.Common.{◌≡◌, Bool, true, false, cond, not, List, [], ◌∷◌, ◌++◌, refl, sym, ap, subst, ◌∙◌, eqb, Some, None, Option, inl, inr}
use Rattle.std.specs.Prelude.{filter, is_some, map, ◌==◌}
use Rattle.std.specs.List.{list_any}
use Rattle.std.proofs.lemmas.Bool.{eqb-true, or_cases}
use Rattle.cf_base.specs.declared.changes.Change.TheVariants as change
use Rattle.cf_base.specs.declared.ids.ItemId.{ItemId}
use Rattle.cf_base.specs.declared.items.Pin.{Pin}
use Rattle.cf_base.specs.declared.items.Pin.TheVariants as pin
use Rattle.cf_base.specs.declared.items.Reach.{Reach}
use Rattle.cf_base.specs.declared.items.Reach.TheVariants as reach
use Rattle.cf_model.specs.Items.{Item, item_of, pin_of}
use Rattle.cf_model.specs.LookUp.{tree_of}
use Rattle.cf_model.specs.Plans.{pin_changes, plan_pin, reached, same_pin}
use Rattle.cf_model.specs.Words.{part, says, when}
use Rattle.cf_table.specs.Tables.{MeansAll, row_of}
use Rattle.cf_table.specs.declared.rows.Row.{Row}
use Rattle.cf_tree.specs.Trees.{IsTree}
use Rattle.cf_tree.proofs.Alike.{BothMean, rows_by_id}
use Rattle.cf_tree.proofs.Walks.{own_id, same_item_id}
use Rattle.cf_item_rules.specs.PinStates.{differs, inherited, set_each, state_for, stored, stored_above}
use Rattle.cf_tree.proofs.Elements.{Each, each_also, each_filtered}
use Rattle.cf_item_rules.proofs.Inheriting.{given_state, inherits_one, settled}
use Rattle.cf_item_rules.proofs.TreeOrder.{There, covered, covered_below, depth_in, each_in_tree, filter_rises, is_other, tree_rises}

-- ids

pub others_are : (id : ItemId) (list : List Item) → filter (λ x. not (x.0 == id.0)) (map (λ (j : Item). j.id) list) ≡ map (λ (j : Item). j.id) (filter (λ j. not (eqb j.id.0 id.0)) list)
others_are id [] = refl
others_are id (j ∷ js) = two (not (eqb j.id.0 id.0)) (others_are id js) where
  two : (b : Bool) → filter (λ x. not (x.0 == id.0)) (map (λ (j : Item). j.id) js) ≡ map (λ (j : Item). j.id) (filter (λ j. not (eqb j.id.0 id.0)) js) →
      cond b (j.id ∷ filter (λ x. not (x.0 == id.0)) (map (λ (j : Item). j.id) js)) (filter (λ x. not (x.0 == id.0)) (map (λ (j : Item). j.id) js))
      ≡ map (λ (j : Item). j.id) (cond b (j ∷ filter (λ j. not (eqb j.id.0 id.0)) js) (filter (λ j. not (eqb j.id.0 id.0)) js))
  two true rest = ap (λ l. j.id ∷ l) rest
  two false rest = rest

-- states

stored_is : (rows : List Row) (items : List Item) (id : ItemId) → MeansAll rows items → stored rows id ≡ pin_of items id
stored_is [] [] id m = refl
stored_is [] (i ∷ is) id m = absurd m
stored_is (r ∷ rs) [] id m = absurd m
stored_is (r ∷ rs) (i ∷ is) id m = two (eqb r.id.0 id.0) (eqb i.id.0 id.0) (ap (λ v. eqb v.0 id.0) m.0.id) (stored_is rs is id m.1) where
  two : (b c : Bool) → b ≡ c → stored rs id ≡ pin_of is id → part (λ r. r.pin) pin.Unspecified (cond b (Some r) (row_of rs id)) ≡ cond c i.pin (pin_of is id)
  two true true e rest = m.0.pin
  two true false e rest = let z : true ≡ false = e in absurd cc
  two false true e rest = let z : false ≡ true = e in absurd cc
  two false false e rest = rest

pin_found : (items : List Item) (id : ItemId) (i : Item) → item_of items id ≡ Some i → pin_of items id ≡ i.pin
pin_found [] id i e = let z : ◌≡◌ {A = Option Item} None (Some i) = e in absurd cc
pin_found (x ∷ xs) id i e = two (eqb x.id.0 id.0) e (λ k. pin_found xs id i k) where
  two : (b : Bool) → cond b (Some x) (item_of xs id) ≡ Some i → (item_of xs id ≡ Some i → pin_of xs id ≡ i.pin) → cond b x.pin (pin_of xs id) ≡ i.pin
  two true k rest = let same : x ≡ i = cc in ap (λ v. v.pin) same
  two false k rest = rest k

above_alike : (rows : List Row) (items : List Item) (o : Option Row) (i : Item) → MeansAll rows items → BothMean o (Some i) → part (λ r. stored rows r.parent) pin.Unspecified o ≡ pin_of items i.parent
above_alike rows items None i m b = absurd b
above_alike rows items (Some r) i m b = ap (λ (v : ItemId). stored rows v) b.parent ∙ stored_is rows items i.parent m

above_is : (rows : List Row) (items : List Item) (id : ItemId) (i : Item) → MeansAll rows items → item_of items id ≡ Some i → stored_above rows id ≡ pin_of items i.parent
above_is rows items id i m e = above_alike rows items (row_of rows id) i m (subst (λ v. BothMean (row_of rows id) v) e (rows_by_id rows items id m))

-- changes

differs_alike : (state : Pin) (o : Option Row) (j : Item) → BothMean o (Some j) → says (λ r. not (same_pin state r.pin)) o ≡ not (same_pin state j.pin)
differs_alike state None j b = absurd b
differs_alike state (Some r) j b = ap (λ v. not (same_pin state v)) b.pin

set_is : (rows : List Row) (items : List Item) (state : Pin) (list : List Item) → MeansAll rows items → Each (There items) list → set_each rows state (map (λ (j : Item). j.id) list) ≡ settled state list
set_is rows items state [] m e = refl
set_is rows items state (j ∷ js) m e =
    let here : differs rows state j.id ≡ not (same_pin state j.pin) = differs_alike state (row_of rows j.id) j (subst (λ v. BothMean (row_of rows j.id) v) e.0 (rows_by_id rows items j.id m)) in
    λ k. when (here k) (change.SetPin j.id state ∷ []) ++ set_is rows items state js m e.1 k

each_reached : (items : List Item) (id : ItemId) (i : Item) (r : Reach) → IsTree items → item_of items id ≡ Some i → Each (There items) (reached items i r)
each_reached items id i reach.One t e = (subst (λ v. item_of items v ≡ Some i) (own_id items id i e) e, tt)
each_reached items id i reach.Recurse t e = each_also _ (There items) (λ j h. h.0) (tree_of items i.id) (each_in_tree items i.id t)
each_reached items id i reach.RecurseOnly t e = each_filtered (There items) (is_other i.id) (tree_of items i.id) (each_also _ _ (λ j h other. h.0) (tree_of items i.id) (each_in_tree items i.id t))

some_there : (items : List Item) (j : Item) → There items j → is_some (item_of items j.id) ≡ true
some_there items j e = ap is_some e

one_set : (state : Pin) (items : List Item) (key : ItemId) → pin_of items key ≡ state → (id : ItemId) → list_any (eqb id.0) (key.0 ∷ []) ≡ true → pin_of items id ≡ state
one_set state items key e id any = elim (or_cases (eqb id.0 key.0) false any) [
  | inl hit ↦ ap (pin_of items) (same_item_id id key (eqb-true id.0 key.0 hit)) ∙ e
  | inr none ↦ let z : false ≡ true = none in absurd cc
]

inherits : (rows : List Row) (items : List Item) (id : ItemId) (i : Item) (r : Reach) → MeansAll rows items → IsTree items → item_of items id ≡ Some i → pin_changes pin.Inherit items (reached items i r) ≡ settled (inherited rows id r) (reached items i r)
inherits rows items id i reach.One m t e = let above = above_is rows items id i m e in λ k. when (not (same_pin (sym above k) i.pin)) (change.SetPin i.id (sym above k) ∷ []) ++ []
inherits rows items id i reach.Recurse m t e =
    let there : item_of items i.id ≡ Some i = subst (λ v. item_of items v ≡ Some i) (own_id items id i e) e in
    inherits_one (depth_in items) (stored_above rows id) (i.parent.0 ∷ []) items (tree_of items i.id) (one_set (stored_above rows id) items i.parent (sym (above_is rows items id i m e)))
    (each_also (There items) _ (some_there items) (tree_of items i.id) (each_reached items id i reach.Recurse t e)) (tree_rises items i.id) (covered items i.id i t there)
inherits rows items id i reach.RecurseOnly m t e =
    let own : id ≡ i.id = own_id items id i e in
    inherits_one (depth_in items) (stored rows id) (i.id.0 ∷ []) items (filter (is_other i.id) (tree_of items i.id)) (one_set (stored rows id) items i.id (ap (pin_of items) (sym own) ∙ sym (stored_is rows items id m)))
    (each_also (There items) _ (some_there items) (filter (is_other i.id) (tree_of items i.id)) (each_reached items id i reach.RecurseOnly t e))
    (filter_rises (depth_in items) (is_other i.id) 0 (tree_of items i.id) (tree_rises items i.id)) (covered_below items i.id t)

changes_are : (rows : List Row) (items : List Item) (id : ItemId) (i : Item) (asked : Pin) (r : Reach) → MeansAll rows items → IsTree items → item_of items id ≡ Some i → plan_pin items i asked r ≡ settled (state_for rows id r asked) (reached items i r)
changes_are rows items id i pin.Unspecified r m t e = given_state pin.Unspecified pin.Unspecified (λ _ _. refl) items (reached items i r)
changes_are rows items id i pin.Pinned r m t e = given_state pin.Pinned pin.Pinned (λ _ _. refl) items (reached items i r)
changes_are rows items id i pin.Unpinned r m t e = given_state pin.Unpinned pin.Unpinned (λ _ _. refl) items (reached items i r)
changes_are rows items id i pin.Excluded r m t e = given_state pin.Excluded pin.Excluded (λ _ _. refl) items (reached items i r)
changes_are rows items id i pin.Inherit r m t e = inherits rows items id i r m t e

pub plan_is : (rows : List Row) (items : List Item) (id : ItemId) (i : Item) (asked : Pin) (r : Reach) (ids : List ItemId) → MeansAll rows items → IsTree items → item_of items id ≡ Some i → ids ≡ map (λ (j : Item). j.id) (reached items i r) →
    set_each rows (state_for rows id r asked) ids ≡ plan_pin items i asked r
plan_is rows items id i asked r ids m t e are =
    ap (set_each rows (state_for rows id r asked)) are ∙ set_is rows items (state_for rows id r asked) (reached items i r) m (each_reached items id i r t e) ∙ sym (changes_are rows items id i asked r m t e)
