-- Who stands at a name, by rows and by items.
use Rattle.std.proofs.Common.{◌≡◌, ℕ, Bool, true, false, List, refl, Some, None, Option, sym, subst, ap, eqb, ◌∙◌}
use Rattle.std.specs.Prelude.{find, option_map}
use Rattle.std.proofs.lemmas.Bool.{and_parts, eqb-true}
use Rattle.cf_base.specs.declared.changes.Change.{Change}
use Rattle.cf_base.specs.declared.changes.Change.TheVariants as change
use Rattle.cf_base.specs.declared.ids.ItemId.{ItemId}
use Rattle.cf_model.specs.ConflictNames.{conflict_name}
use Rattle.cf_model.specs.Feeds.{name_in_root}
use Rattle.cf_model.specs.Items.{Item, item_of}
use Rattle.cf_model.specs.LookUp.{child_of, is_child_named}
use Rattle.cf_model.specs.Numbers.{root_id}
use Rattle.cf_model.specs.Skips.{conflict_move, if_other}
use Rattle.cf_model.specs.Words.{part, same}
use Rattle.cf_table.specs.Tables.{MeansAll, id_of, is_child_row, row_of}
use Rattle.cf_table.specs.declared.rows.Row.{Row}
use Rattle.cf_table.proofs.ChildrenOf.{child_means}
use Rattle.cf_engine_feed_plan.specs.Lists.{off}
use Rattle.cf_engine_feed_plan.specs.Premises.{FoundAs}
use Rattle.cf_engine_feed_plan.proofs.FoundRows.{found_by_id}
use Rattle.cf_tree.proofs.FreeNames.{same_is}
use Rattle.cf_tree.proofs.Walks.{by_own_id, found_passes, same_item_id}
use Rattle.cf_tree.specs.Trees.{IsTree}

-- the child by its id
id_none : (o : Option Item) → ◌≡◌ {A = Option ItemId} (option_map (λ i. i.id) o) None → o ≡ None
id_none None e = refl
id_none (Some i) e = let z : ◌≡◌ {A = Option ItemId} (Some i.id) None = e in absurd cc

pub record IsChild (items : List Item) (parent : ItemId) (name : List ℕ) (id : ItemId) : Type 0 where
  pub item : Item
  pub is : child_of items parent name ≡ Some item
  pub own : id ≡ item.id

id_some : (items : List Item) (parent : ItemId) (name : List ℕ) (id : ItemId) (o : Option Item) → child_of items parent name ≡ o → ◌≡◌ {A = Option ItemId} (option_map (λ i. i.id) o) (Some id) → IsChild items parent name id
id_some items parent name id None h e = let z : ◌≡◌ {A = Option ItemId} None (Some id) = e in absurd cc
id_some items parent name id (Some i) h e = record { item = i; is = h; own = one i.id id e } where
  one : (a b : ItemId) → ◌≡◌ {A = Option ItemId} (Some a) (Some b) → b ≡ a
  one a b e = cc

no_child : (rows : List Row) (items : List Item) (parent : ItemId) (name : List ℕ) → MeansAll rows items → id_of (find (is_child_row parent name) rows) ≡ None → child_of items parent name ≡ None
no_child rows items parent name m e = id_none (child_of items parent name) (sym (child_means rows items parent name m) ∙ e)

a_child : (rows : List Row) (items : List Item) (parent : ItemId) (name : List ℕ) (id : ItemId) → MeansAll rows items → id_of (find (is_child_row parent name) rows) ≡ Some id → IsChild items parent name id
a_child rows items parent name id m e = id_some items parent name id (child_of items parent name) refl (sym (child_means rows items parent name m) ∙ e)

-- its row

pub child_none : (rows : List Row) (items : List Item) (parent : ItemId) (name : List ℕ) → MeansAll rows items → id_of (find (is_child_row parent name) rows) ≡ None → FoundAs None (child_of items parent name)
child_none rows items parent name m e = subst (λ (o : Option Item). FoundAs None o) (sym (no_child rows items parent name m e)) tt

pub child_some : (rows : List Row) (items : List Item) (parent : ItemId) (name : List ℕ) (id : ItemId) → MeansAll rows items → IsTree items → id_of (find (is_child_row parent name) rows) ≡ Some id → FoundAs (row_of rows id) (child_of items parent name)
child_some rows items parent name id m t e =
    let h = a_child rows items parent name id m e in
    let there : item_of items id ≡ child_of items parent name = ap (λ (v : ItemId). item_of items v) h.own ∙ by_own_id 1 (is_child_named parent name) items h.item t.order h.is ∙ sym h.is in
    subst (λ (o : Option Item). FoundAs (row_of rows id) o) there (found_by_id rows items id m)

-- the move off the name

pub off_none : (rows : List Row) (items : List Item) (parent : ItemId) (name : List ℕ) (but : ItemId) → MeansAll rows items → id_of (find (is_child_row parent name) rows) ≡ None → ◌≡◌ {A = Option Change} None (off items parent name but)
off_none rows items parent name but m e = sym (ap (λ (o : Option Item). option_map (conflict_move items) (part (if_other but) None o)) (no_child rows items parent name m e))

by_other : (items : List Item) (but : ItemId) (i : Item) (b : Bool) → eqb i.id.0 but.0 ≡ b → option_map (conflict_move items) (if_other but i) ≡ option_map (conflict_move items) (elim b as (λ _. Option Item) [ true ↦ None | false ↦ Some i ])
by_other items but i b h = ap (λ (c : Bool). option_map (conflict_move items) (elim c as (λ _. Option Item) [ true ↦ None | false ↦ Some i ])) h

pub off_same : (rows : List Row) (items : List Item) (parent : ItemId) (name : List ℕ) (id but : ItemId) → MeansAll rows items → id_of (find (is_child_row parent name) rows) ≡ Some id → eqb id.0 but.0 ≡ true → ◌≡◌ {A = Option Change} None (off items parent name but)
off_same rows items parent name id but m e s =
    let h = a_child rows items parent name id m e in
    sym (ap (λ (o : Option Item). option_map (conflict_move items) (part (if_other but) None o)) h.is ∙ by_other items but h.item true (ap (λ (v : ItemId). eqb v.0 but.0) (sym h.own) ∙ s))

pub off_other : (rows : List Row) (items : List Item) (parent : ItemId) (name : List ℕ) (id but : ItemId) (n : List ℕ) → MeansAll rows items → id_of (find (is_child_row parent name) rows) ≡ Some id → eqb id.0 but.0 ≡ false → n ≡ conflict_name items parent name →
    Some (change.Move id parent n) ≡ off items parent name but
off_other rows items parent name id but n m e s is =
    let h = a_child rows items parent name id m e in
    let at = and_parts (eqb h.item.parent.0 parent.0) (same h.item.name name) (found_passes (is_child_named parent name) items h.item h.is) in
    let up : h.item.parent ≡ parent = same_item_id h.item.parent parent (eqb-true h.item.parent.0 parent.0 at.0) in
    let named : h.item.name ≡ name = same_is h.item.name name at.1 in
    (λ k. Some (change.Move (h.own k) (sym up k) ((is ∙ (λ j. conflict_name items (sym up j) (sym named j))) k)))
    ∙ sym (ap (λ (o : Option Item). option_map (conflict_move items) (part (if_other but) None o)) h.is ∙ by_other items but h.item false (ap (λ (v : ItemId). eqb v.0 but.0) (sym h.own) ∙ s))

-- the name in the root

pub root_free : (rows : List Row) (items : List Item) (p : Item) (name : List ℕ) → MeansAll rows items → name ≡ p.name → id_of (find (is_child_row root_id name) rows) ≡ None → name ≡ name_in_root items p
root_free rows items p name m e free =
    e ∙ sym (ap (λ (o : Option Item). elim o as (λ _. List ℕ) [ None ↦ p.name | Some i ↦ conflict_name items root_id p.name ]) (ap (λ (v : List ℕ). child_of items root_id v) (sym e) ∙ no_child rows items root_id name m free))

pub root_taken : (rows : List Row) (items : List Item) (p : Item) (name n : List ℕ) (id : ItemId) → MeansAll rows items → name ≡ p.name → id_of (find (is_child_row root_id name) rows) ≡ Some id → n ≡ conflict_name items root_id name → n ≡ name_in_root items p
root_taken rows items p name n id m e taken is =
    let h = a_child rows items root_id name id m taken in
    is ∙ ap (λ (v : List ℕ). conflict_name items root_id v) e
    ∙ sym (ap (λ (o : Option Item). elim o as (λ _. List ℕ) [ None ↦ p.name | Some i ↦ conflict_name items root_id p.name ]) (ap (λ (v : List ℕ). child_of items root_id v) (sym e) ∙ h.is))
