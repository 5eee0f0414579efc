-- An item and all below it are its levels, one after the other.
use Rattle.std.proofs.Common.{◌≡◌, ℕ, zero, suc, ◌+◌, ◌≤◌, ◌<◌, Bool, true, false, cond, List, [], ◌∷◌, ◌++◌, refl, sym, ap, subst, ◌∙◌, arith, eqb, Some, None, Option, inl, inr}
use Rattle.std.specs.Prelude.{filter, nat_lt, ◌&&◌, ◌⊎◌}
use Rattle.std.specs.List.{list_any}
use Rattle.std.proofs.lemmas.Bool.{and_right, cases_Bool, eqb-true, false_from_ne_true, ne_eqb, or_cases}
use Rattle.std.proofs.lemmas.List.{map-append}
use Rattle.cf_base.specs.declared.ids.ItemId.{ItemId}
use Rattle.cf_model.specs.Items.{Item, item_of}
use Rattle.cf_model.specs.LookUp.{depth_at, is_below, root_of, tree_of}
use Rattle.cf_model.specs.Words.{sorted}
use Rattle.cf_table.specs.Tables.{MeansAll, row_of}
use Rattle.cf_table.specs.declared.rows.Row.{Row}
use Rattle.cf_tree.specs.Levels.{level_below, levels_in}
use Rattle.cf_tree.specs.Trees.{IsTree}
use Rattle.cf_tree.proofs.Alike.{BothMean, rows_by_id}
use Rattle.cf_tree.proofs.ByKey.{by_key, sorted_by_key}
use Rattle.cf_tree.proofs.ChildIds.{below_is, ids}
use Rattle.cf_tree.proofs.Heights.{above_or_own, depth_small, line_of_item}
use Rattle.cf_tree.proofs.LevelsBelow.{There, depth_in, first_level, in_tree, level, level_rises, next_level, none_there, tree_depth}
use Rattle.cf_tree.proofs.Stable.{has_key}
use Rattle.cf_tree.proofs.Walks.{own_id, root_found, same_item_id}

pub next_ids : (rows : List Row) (items : List Item) (top : ItemId) (d : ℕ) → MeansAll rows items → IsTree items → depth_at items top ≤ d → level_below rows (ids (level items top d)) ≡ ids (level items top (suc d))
next_ids rows items top d m t le = below_is rows items (level items top d) m t.order (level_rises items top d t) ∙ ap ids (next_level items top d le t)

-- a level is the part of the tree with its depth

both_tests : (p q : Item → Bool) (xs : List Item) → filter p (filter q xs) ≡ filter (λ x. q x && p x) xs
both_tests p q [] = refl
both_tests p q (x ∷ xs) = two (q x) (both_tests p q xs) where
  two : (b : Bool) → filter p (filter q xs) ≡ filter (λ x. q x && p x) xs → filter p (cond b (x ∷ filter q xs) (filter q xs)) ≡ cond (b && p x) (x ∷ filter (λ x. q x && p x) xs) (filter (λ x. q x && p x) xs)
  two true rest = ap (λ l. cond (p x) (x ∷ l) l) rest
  two false rest = rest

part_is : (items : List Item) (top : ItemId) (d : ℕ) → filter (has_key (depth_in items) d) (filter (in_tree items top) items) ≡ level items top d
part_is items top d = both_tests (has_key (depth_in items) d) (in_tree items top) items

-- all depths are those of the levels
no_other_depth : (items : List Item) (top : ItemId) (k : ℕ) → IsTree items → (k < depth_at items top) ⊎ (depth_at items top + 33 ≤ k) → filter (has_key (depth_in items) k) (filter (in_tree items top) items) ≡ []
no_other_depth items top k t out = part_is items top k ∙ none_there (λ i. in_tree items top i && eqb (depth_in items i) k) items t.order (λ i there. none i there) where
  none : (i : Item) → There items i → (in_tree items top i && eqb (depth_in items i) k) ≡ false
  none i there = elim (cases_Bool (in_tree items top i)) [
    | inl inside ↦ and_right (in_tree items top i) (eqb (depth_in items i) k) (ne_eqb (depth_in items i) k (λ e. elim out [
      | inl low ↦ omega (arith, tree_depth items i top t there inside)
      | inr high ↦ omega (arith, depth_small items i.id t)
    ]))
    | inr outside ↦ ap (λ v. v && eqb (depth_in items i) k) outside
  ]

pub by_levels : (items : List Item) (top : ItemId) → IsTree items → tree_of items top ≡ by_key (depth_in items) 33 (depth_at items top) (filter (in_tree items top) items)
by_levels items top t = sorted_by_key (depth_in items) 33 (depth_at items top) (filter (in_tree items top) items) (λ k out. no_other_depth items top k t out)

levels_are : (n : ℕ) (rows : List Row) (items : List Item) (top : ItemId) (d : ℕ) → MeansAll rows items → IsTree items → depth_at items top ≤ d → levels_in n rows (ids (level items top d)) ≡ ids (by_key (depth_in items) n d (filter (in_tree items top) items))
unfolding levels_in
levels_are zero rows items top d m t le = refl
levels_are (suc n) rows items top d m t le =
    ap (λ l. ids (level items top d) ++ levels_in n rows l) (next_ids rows items top d m t le)
    ∙ (λ k. ids (sym (part_is items top d) k) ++ levels_are n rows items top (suc d) m t (omega arith) k)
    ∙ sym (map-append (λ (i : Item). i.id) (filter (has_key (depth_in items) d) (filter (in_tree items top) items)) (by_key (depth_in items) n (suc d) (filter (in_tree items top) items)))

-- an item that is not there has no tree

not_inside : (items : List Item) (top : ItemId) (i : Item) → IsTree items → There items i → item_of items top ≡ None → in_tree items top i ≡ false
not_inside items top i t there none = false_from_ne_true _ (λ inside. elim (or_cases (eqb top.0 1) (is_below items i.id top) inside) [
  | inl one ↦ let z : ◌≡◌ {A = Option Item} None (Some (root_of items)) = sym none ∙ root_found items top (eqb-true top.0 1 one) t.root in absurd cc
  | inr below ↦ let s = t.places i.id i there in elim (above_or_own s.depth items i top.0 s.under (ap (λ l. list_any (λ k. eqb k top.0) l) (sym (line_of_item items i.id i s.depth there s.under)) ∙ below)) [
    | inl own ↦ found i there (same_item_id i.id top own)
    | inr a ↦ found a.item a.there (same_item_id a.item.id top a.id)
  ]
]) where
  found : (j : Item) → There items j → j.id ≡ top → ⊥
  found j at same = let z : ◌≡◌ {A = Option Item} (Some j) None = sym at ∙ ap (λ (v : ItemId). item_of items v) same ∙ none in absurd cc

tree_gone : (items : List Item) (top : ItemId) → IsTree items → item_of items top ≡ None → tree_of items top ≡ []
tree_gone items top t none = ap (λ l. sorted (λ (i j : Item). nat_lt (depth_in items i) (depth_in items j)) l) (none_there (in_tree items top) items t.order (λ i there. not_inside items top i t there none))

pub no_tree : (rows : List Row) (items : List Item) (top : ItemId) → MeansAll rows items → IsTree items → row_of rows top ≡ None → [] ≡ ids (tree_of items top)
no_tree rows items top m t none = cases (item_of items top) refl (subst (λ v. BothMean v (item_of items top)) none (rows_by_id rows items top m)) where
  cases : (o : Option Item) → item_of items top ≡ o → BothMean None o → [] ≡ ids (tree_of items top)
  cases None e h = sym (ap ids (tree_gone items top t e))
  cases (Some i) e h = absurd h

pub tree_is : (rows : List Row) (items : List Item) (top : ItemId) (r : Row) → MeansAll rows items → IsTree items → row_of rows top ≡ Some r → levels_in 33 rows (top ∷ []) ≡ ids (tree_of items top)
tree_is rows items top r m t some = cases (item_of items top) refl (subst (λ v. BothMean v (item_of items top)) some (rows_by_id rows items top m)) where
  cases : (o : Option Item) → item_of items top ≡ o → BothMean (Some r) o → levels_in 33 rows (top ∷ []) ≡ ids (tree_of items top)
  cases None e h = absurd h
  cases (Some i) e h =
      let alone : top ∷ [] ≡ ids (level items top (depth_at items top)) = ap (λ (v : ItemId). v ∷ []) (own_id items top i e) ∙ ap ids (sym (first_level items top i t e)) in
      ap (levels_in 33 rows) alone ∙ levels_are 33 rows items top (depth_at items top) m t (omega arith) ∙ ap ids (sym (by_levels items top t))
