-- The way up through rows is the way up through items.
use Rattle.std.proofs.Common.{◌≡◌, ℕ, zero, suc, ◌+◌, ◌-◌, ◌≤◌, ◌<◌, Bool, true, false, cond, List, [], ◌∷◌, length, refl, sym, ap, subst, ◌∙◌, arith, eqb, Some, None, Option}
use Rattle.std.specs.Prelude.{◌||◌}
use Rattle.std.specs.List.{list_any}
use Rattle.cf_base.specs.declared.ids.ItemId.{ItemId}
use Rattle.cf_model.specs.Items.{Item, item_of}
use Rattle.cf_model.specs.LookUp.{item_line, line_up}
use Rattle.cf_table.specs.Tables.{MeansAll, row_of}
use Rattle.cf_table.specs.declared.rows.Row.{Row}
use Rattle.cf_tree.specs.Lines.{line_in, parent_in}
use Rattle.cf_tree.specs.Trees.{IsTree}
use Rattle.cf_tree.proofs.Alike.{BothMean, rows_by_id}
use Rattle.cf_tree.proofs.Depths.{few_names, line_none, line_under}
use Rattle.cf_tree.proofs.Walks.{own_id}

-- one step up, and none

pub goes_up : (n : ℕ) (rows : List Row) (at parent : ItemId) → 0 < n → parent_in (row_of rows at) ≡ Some parent → line_in n rows at ≡ at.0 ∷ line_in (n - 1) rows parent
unfolding line_in
goes_up zero rows at parent lt e = absurd (omega arith)
goes_up (suc n) rows at parent lt e =
    let one : suc n - 1 ≡ n = omega arith in
    ap (λ o. elim o as (λ _. List ℕ) [ None ↦ [] | Some p ↦ at.0 ∷ line_in n rows p ]) e ∙ ap (λ k. at.0 ∷ line_in k rows parent) (sym one)

pub ends_here : (n : ℕ) (rows : List Row) (at : ItemId) → parent_in (row_of rows at) ≡ None → line_in n rows at ≡ []
unfolding line_in
ends_here zero rows at e = refl
ends_here (suc n) rows at e = ap (λ o. elim o as (λ _. List ℕ) [ None ↦ [] | Some p ↦ at.0 ∷ line_in n rows p ]) e

pub no_fuel : (rows : List Row) (at : ItemId) → line_in 0 rows at ≡ []
unfolding line_in
no_fuel rows at = refl

-- rows and items

abbrev parent_above : Option Item → Option ItemId
parent_above None = None
parent_above (Some i) = cond (eqb i.id.0 1) None (Some i.parent)

parents_alike : (o : Option Row) (p : Option Item) → BothMean o p → parent_in o ≡ parent_above p
parents_alike None None h = refl
parents_alike None (Some i) h = absurd h
parents_alike (Some r) None h = absurd h
parents_alike (Some r) (Some i) h = λ k. cond (eqb (h.id k).0 1) None (Some (h.parent k))

line_from : (n : ℕ) (items : List Item) (id : ItemId) (o : Option Item) → item_of items id ≡ o →
    line_up (suc n) items o ≡ elim (parent_above o) as (λ _. List ℕ) [ None ↦ [] | Some p ↦ id.0 ∷ line_up n items (item_of items p) ]
line_from n items id None e = refl
line_from n items id (Some i) e = two (eqb i.id.0 1) where
  two : (b : Bool) → cond b [] (i.id.0 ∷ line_up n items (item_of items i.parent)) ≡ elim (cond b None (Some i.parent)) as (λ _. List ℕ) [ None ↦ [] | Some p ↦ id.0 ∷ line_up n items (item_of items p) ]
  two true = refl
  two false = ap (λ (v : ItemId). v.0 ∷ line_up n items (item_of items i.parent)) (sym (own_id items id i e))

pub line_is_up : (n : ℕ) (rows : List Row) (items : List Item) (id : ItemId) → MeansAll rows items → line_in n rows id ≡ line_up n items (item_of items id)
unfolding line_in
line_is_up zero rows items id m = refl
line_is_up (suc n) rows items id m =
    ap (λ o. elim o as (λ _. List ℕ) [ None ↦ [] | Some p ↦ id.0 ∷ line_in n rows p ]) (parents_alike (row_of rows id) (item_of items id) (rows_by_id rows items id m))
    ∙ inside (parent_above (item_of items id)) (λ p. line_is_up n rows items p m) ∙ sym (line_from n items id (item_of items id) refl) where
      inside : (o : Option ItemId) → ((p : ItemId) → line_in n rows p ≡ line_up n items (item_of items p)) →
          (elim o as (λ _. List ℕ) [ None ↦ [] | Some p ↦ id.0 ∷ line_in n rows p ]) ≡ (elim o as (λ _. List ℕ) [ None ↦ [] | Some p ↦ id.0 ∷ line_up n items (item_of items p) ])
      inside None h = refl
      inside (Some p) h = ap (λ l. id.0 ∷ l) (h p)

-- in a tree a line of 33 is whole

whole : (n : ℕ) (items : List Item) (id : ItemId) (o : Option Item) → IsTree items → item_of items id ≡ o → 32 ≤ n → line_up n items o ≡ line_up (length items) items o
whole n items id None t e le = line_none n items ∙ sym (line_none (length items) items)
whole n items id (Some i) t e le =
    let s = t.places id i e in
    let there : item_of items i.id ≡ Some i = subst (λ v. item_of items v ≡ Some i) (own_id items id i e) e in
    line_under s.depth n items i s.under (omega (arith, s.few)) ∙ sym (line_under s.depth (length items) items i s.under (few_names s.depth items i s.under there))

pub line_is : (n : ℕ) (rows : List Row) (items : List Item) (id : ItemId) → MeansAll rows items → IsTree items → 32 ≤ n → line_in n rows id ≡ item_line items id
line_is n rows items id m t le = line_is_up n rows items id m ∙ whole n items id (item_of items id) t refl le

-- a loop up

pub record IsAt (most : ℕ) (rows : List Row) (id other : ItemId) (d : ℕ) (at : ItemId) (passed : Bool) : Type 0 where
  pub depth : d + length (line_in (most - d) rows at) ≡ length (line_in most rows id)
  pub passes : (passed || list_any (λ k. eqb k other.0) (line_in (most - d) rows at)) ≡ list_any (λ k. eqb k other.0) (line_in most rows id)

pub moves_up : (most : ℕ) (rows : List Row) (id other : ItemId) (d : ℕ) (at up parent : ItemId) (passed now : Bool) → d < most → parent_in (row_of rows at) ≡ Some parent → up ≡ parent → now ≡ (passed || eqb at.0 other.0) →
    IsAt most rows id other d at passed → IsAt most rows id other (d + 1) up now
moves_up most rows id other d at up parent passed now lt e there is h =
    let e2 : most - (d + 1) ≡ most - d - 1 = omega arith in
    let gone : line_in (most - d) rows at ≡ at.0 ∷ line_in (most - (d + 1)) rows up =
    goes_up (most - d) rows at parent (omega arith) e ∙ (λ k. at.0 ∷ line_in (sym e2 k) rows (sym there k)) in
    record {
      depth = omega (arith, h.depth, ap length gone);
      passes = grouped passed (eqb at.0 other.0) (list_any (λ k. eqb k other.0) (line_in (most - (d + 1)) rows up)) now is ∙ ap (λ l. passed || list_any (λ k. eqb k other.0) l) (sym gone) ∙ h.passes;
    } where
      grouped : (p q r n : Bool) → n ≡ (p || q) → (n || r) ≡ (p || (q || r))
      grouped true q r n e = ap (λ v. v || r) e
      grouped false q r n e = ap (λ v. v || r) e

pub stops : (most : ℕ) (rows : List Row) (id other : ItemId) (d : ℕ) (at : ItemId) (passed : Bool) → line_in (most - d) rows at ≡ [] → IsAt most rows id other d at passed →
    (d ≡ length (line_in most rows id)) × (passed ≡ list_any (λ k. eqb k other.0) (line_in most rows id))
stops most rows id other d at passed e h = (omega (arith, h.depth, ap length e), nothing passed ∙ ap (λ l. passed || list_any (λ k. eqb k other.0) l) (sym e) ∙ h.passes) where
  nothing : (p : Bool) → p ≡ (p || false)
  nothing true = refl
  nothing false = refl

pub by_before : (p b : Bool) → p ≡ true → p ≡ (p || b)
by_before true b e = refl
by_before false b e = let z : false ≡ true = e in absurd cc

pub by_this : (p b : Bool) → p ≡ false → b ≡ (p || b)
by_this true b e = let z : true ≡ false = e in absurd cc
by_this false b e = refl
