-- How deep the items at and below an item stand.
use Rattle.std.proofs.Common.{◌≡◌, ℕ, zero, suc, ◌+◌, ◌≤◌, ◌<◌, Bool, true, false, cond, not, List, [], ◌∷◌, length, refl, sym, ap, subst, ◌∙◌, arith, eqb, ltb, Some, None, Option, inl, inr}
use Rattle.std.specs.Prelude.{filter, find, map, ◌||◌, ◌⊎◌}
use Rattle.std.specs.List.{list_any}
use Rattle.std.proofs.lemmas.Bool.{eqb-true, le-ltb, or_cases}
use Rattle.cf_base.specs.declared.codes.Code.{Code}
use Rattle.cf_base.specs.declared.codes.Code.TheVariants as code
use Rattle.cf_base.specs.declared.ids.ItemId.{ItemId}
use Rattle.cf_model.specs.Items.{Item, item_of}
use Rattle.cf_model.specs.LookUp.{child_of, depth_at, height_at, is_below, item_line, line_up}
use Rattle.cf_model.specs.Words.{first_of, greatest, says}
use Rattle.cf_table.specs.Tables.{MeansAll, id_of, is_child_row}
use Rattle.cf_table.specs.declared.rows.Row.{Row}
use Rattle.cf_tree.specs.Trees.{IsTree, IsUnder}
use Rattle.cf_tree.proofs.Alike.{BothMean, rows_by_name}
use Rattle.cf_tree.proofs.Depths.{few_names, line_depth, line_none, line_step, line_under, some_of}
use Rattle.cf_tree.proofs.Walks.{own_id}

-- the line of an item that is there

pub line_of_item : (items : List Item) (id : ItemId) (i : Item) (d : ℕ) → item_of items id ≡ Some i → IsUnder d items i → item_line items id ≡ line_up d items (Some i)
line_of_item items id i d e h =
    let there : item_of items i.id ≡ Some i = subst (λ v. item_of items v ≡ Some i) (own_id items id i e) e in
    ap (λ o. line_up (length items) items o) e ∙ line_under d (length items) items i h (few_names d items i h there)

pub depth_is : (items : List Item) (id : ItemId) (i : Item) (d : ℕ) → item_of items id ≡ Some i → IsUnder d items i → depth_at items id ≡ d
depth_is items id i d e h = ap length (line_of_item items id i d e h) ∙ line_depth d items i h

pub depth_small : (items : List Item) (id : ItemId) → IsTree items → depth_at items id ≤ 32
depth_small items id t = cases (item_of items id) refl where
  cases : (o : Option Item) → item_of items id ≡ o → depth_at items id ≤ 32
  cases None e = let none : item_line items id ≡ [] = ap (λ o. line_up (length items) items o) e ∙ line_none (length items) items in omega (arith, ap length none)
  cases (Some i) e = let s = t.places id i e in omega (arith, depth_is items id i s.depth e s.under, s.few)

pub no_greater : (f : Item → ℕ) (p : Item → Bool) (n : ℕ) → ((j : Item) → p j ≡ true → f j ≤ n) → (list : List Item) → greatest (map f (filter p list)) ≤ n
no_greater f p n h [] = omega arith
no_greater f p n h (x ∷ xs) = two (p x) refl (no_greater f p n h xs) where
  two : (b : Bool) → p x ≡ b → greatest (map f (filter p xs)) ≤ n → greatest (map f (cond b (x ∷ filter p xs) (filter p xs))) ≤ n
  two true e rest = omega (arith, h x e)
  two false e rest = rest

-- an id on the line of an item is that of an item that is there
pub record IsAbove (items : List Item) (q : ℕ) : Type 0 where
  pub item : Item
  pub id : item.id.0 ≡ q
  pub there : item_of items item.id ≡ Some item

pub above_or_own : (m : ℕ) (items : List Item) (j : Item) (q : ℕ) → IsUnder m items j → list_any (λ k. eqb k q) (line_up m items (Some j)) ≡ true → (j.id.0 ≡ q) ⊎ IsAbove items q
above_or_own zero items j q h any = let z : false ≡ true = any in absurd cc
above_or_own (suc m) items j q h any =
    let p = some_of (item_of items j.parent) (λ p. (p.directory ≡ true) × IsUnder m items p) h.1 in
    let own : j.parent ≡ p.0.id = own_id items j.parent p.0 p.1 in
    let up : item_of items p.0.id ≡ Some p.0 = subst (λ v. item_of items v ≡ Some p.0) own p.1 in
    let any2 : list_any (λ k. eqb k q) (j.id.0 ∷ line_up m items (Some p.0)) ≡ true = subst (λ l. list_any (λ k. eqb k q) l ≡ true) (line_step m items j p.0 h.0 p.1) any in
    elim (or_cases (eqb j.id.0 q) (list_any (λ k. eqb k q) (line_up m items (Some p.0))) any2) [
      | inl hit ↦ inl (eqb-true j.id.0 q hit)
      | inr more ↦ elim (above_or_own m items p.0 q p.2.1 more) [
        | inl e ↦ inr (record { item = p.0; id = e; there = up })
        | inr a ↦ inr a
      ]
    ]

-- an item that comes no deeper

pub comes_no_deeper : (items : List Item) (id : ItemId) (above depth : ℕ) → IsTree items → depth ≡ depth_at items id → above < depth → false ≡ ltb 32 (above + 1 + height_at items id)
comes_no_deeper items id above depth t e lt =
    let low = no_greater (λ j. depth_at items j.id) (λ j. is_below items j.id id) 32 (λ j _. depth_small items j.id t) items in
    sym (le-ltb 32 (above + 1 + height_at items id) (omega (arith, depth_small items id t)))

-- another item has the name

taken_alike : (id : ItemId) (o : Option Row) (p : Option Item) → BothMean o p → says (λ v. not (eqb v.0 id.0)) (id_of o) ≡ says (λ i. not (eqb i.id.0 id.0)) p
taken_alike id None None h = refl
taken_alike id None (Some i) h = absurd h
taken_alike id (Some r) None h = absurd h
taken_alike id (Some r) (Some i) h = ap (λ v. not (eqb v.0 id.0)) h.id

pub taken_is : (rows : List Row) (items : List Item) (id parent : ItemId) (name : List ℕ) → MeansAll rows items →
    says (λ v. not (eqb v.0 id.0)) (id_of (find (is_child_row parent name) rows)) ≡ says (λ i. not (eqb i.id.0 id.0)) (child_of items parent name)
taken_is rows items id parent name m = taken_alike id (find (is_child_row parent name) rows) (child_of items parent name) (rows_by_name rows items parent name m)

-- the first refusal of a move

abbrev refusals : Bool → Bool → Bool → Bool → Option Code
refusals a b d e = first_of ((a || b, code.IntoItself) ∷ (d, code.TooDeep) ∷ (e, code.Exists) ∷ [])

pub into_itself : (a b d e : Bool) → a ≡ true → refusals a b d e ≡ Some code.IntoItself
into_itself true b d e h = refl
into_itself false b d e h = let z : false ≡ true = h in absurd cc

pub below_itself : (a b d e : Bool) → b ≡ true → refusals a b d e ≡ Some code.IntoItself
below_itself true true d e h = refl
below_itself false true d e h = refl
below_itself a false d e h = let z : false ≡ true = h in absurd cc

pub too_deep : (a b d e : Bool) → a ≡ false → b ≡ false → d ≡ true → refusals a b d e ≡ Some code.TooDeep
too_deep a b d e f g h = λ k. refusals (f k) (g k) (h k) e

pub name_taken : (a b d e : Bool) → a ≡ false → b ≡ false → d ≡ false → e ≡ true → refusals a b d e ≡ Some code.Exists
name_taken a b d e f g h m = λ k. refusals (f k) (g k) (h k) (m k)

pub may_move : (a b d e : Bool) → a ≡ false → b ≡ false → d ≡ false → e ≡ false → refusals a b d e ≡ None
may_move a b d e f g h m = λ k. refusals (f k) (g k) (h k) (m k)
