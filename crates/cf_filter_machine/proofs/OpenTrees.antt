-- Directories whose entries have not come stay without a child.
use Rattle.std.proofs.Common.{◌≡◌, ⊎_elim, ℕ, zero, suc, ◌<◌, Bool, true, false, cond, eqb, List, [], ◌∷◌, ◌++◌, Option, Some, None, refl, sym, ◌∙◌, ap, subst, arith}
use Rattle.std.specs.Prelude.{MatchOption}
use Rattle.std.proofs.lemmas.Bool.{eqb-true}
use Rattle.std.proofs.lemmas.Option.{none-some, same_Some}
use Rattle.cf_base.specs.declared.ids.ItemId.{ItemId}
use Rattle.cf_filter_machine.proofs.ChangedItems.{changed_at, last_at}
use Rattle.cf_model.specs.Effects.{changed}
use Rattle.cf_model.specs.Items.{Item, item_of}
use Rattle.cf_model.specs.LookUp.{root_of}
use Rattle.cf_filter_steps.specs.Suiting.{IsOpenDirectory}
use Rattle.cf_tree.proofs.Walks.{own_id, root_found}
use Rattle.cf_tree.specs.Trees.{AreOpen, BeginWithRoot, IsTree, IsUnder}

-- an item is changed that stays known where it was known; above each item stands one that is known
pub open_changed : (items : List Item) (key : ItemId) (f : Item → Item) → ((i : Item) → (f i).id ≡ i.id) → ((i : Item) → i.populated ≡ true → (f i).populated ≡ true)
    → ((i p : Item) → item_of items key ≡ Some i → item_of items (f i).parent ≡ Some p → p.populated ≡ true) → AreOpen items → AreOpen (changed key f items)
open_changed items key f same known ups open_now id j q there above =
    let a = changed_at key f items id j same there in
    let b = changed_at key f items j.parent q same above in
    let up : b.0.populated ≡ true = parent_known a.0 a.1 (eqb a.0.id.0 key.0) refl a.2 b.0 b.1 in
    subst (λ (x : Item). x.populated ≡ true) (sym b.2) (keeps (eqb b.0.id.0 key.0) b.0 up)
  where
    keeps : (t : Bool) (i : Item) → i.populated ≡ true → (cond t (f i) i).populated ≡ true
    keeps true i h = known i h
    keeps false i h = h

    key_found : (i : Item) → item_of items id ≡ Some i → eqb i.id.0 key.0 ≡ true → item_of items key ≡ Some i
    key_found i e t = ap (item_of items) (ap (λ (n : ℕ). record { 0 = n }) (sym (eqb-true i.id.0 key.0 t)) ∙ sym (own_id items id i e)) ∙ e

    parent_known : (i : Item) → item_of items id ≡ Some i → (t : Bool) → eqb i.id.0 key.0 ≡ t → j ≡ cond t (f i) i → (p : Item) → item_of items j.parent ≡ Some p → p.populated ≡ true
    parent_known i e true t is p at = ups i p (key_found i e t) (ap (λ (x : Item). item_of items x.parent) (sym is) ∙ at)
    parent_known i e false t is p at = open_now id i p e (ap (λ (x : Item). item_of items x.parent) (sym is) ∙ at)

-- a new item stands in a directory that is known

root_above : (items : List Item) → BeginWithRoot items → (root_of items).parent.0 ≡ 0
root_above [] b = absurd b
root_above (x ∷ xs) b = b.2

-- each item but the root has its directory
has_parent : (items : List Item) (d : ℕ) (i : Item) → IsTree items → item_of items i.id ≡ Some i → IsUnder d items i → item_of items i.parent ≡ None → i.parent.0 ≡ 0
has_parent items zero i tree there under none = ap (λ (j : Item). j.parent.0) (same_Some i (root_of items) (sym there ∙ root_found items i.id under tree.root)) ∙ root_above items tree.root
has_parent items (suc d) i tree there under none = absurd (subst (λ (o : Option Item). MatchOption o ⊥ (λ p. (p.directory ≡ true) × IsUnder d items p)) none under.1)

open_some : (o : Option Item) → MatchOption o ⊥ IsOpenDirectory → (p : Item) × (o ≡ Some p) × (p.populated ≡ true)
open_some None h = absurd h
open_some (Some p) h = (p, refl, h.1)

pub open_last : (items : List Item) (new : Item) → IsTree items → AreOpen items → 0 < new.id.0 → MatchOption (item_of items new.parent) ⊥ IsOpenDirectory → AreOpen (items ++ new ∷ [])
open_last items new tree open_now some place id j q there above = ⊎_elim (λ old. old_item old) (λ (last : (item_of items id ≡ None) × (new.id.0 ≡ id.0) × (j ≡ new)). new_item last.2) (last_at items new id j there)
  where
    old_item : item_of items id ≡ Some j → q.populated ≡ true
    old_item e = ⊎_elim (λ up. open_now id j q e up)
        (λ (last : (item_of items j.parent ≡ None) × (new.id.0 ≡ j.parent.0) × (q ≡ new)).
        let own : item_of items j.id ≡ Some j = subst (λ (k : ItemId). item_of items k ≡ Some j) (own_id items id j e) e in
        let stands = tree.places id j e in
        absurd (let none = has_parent items stands.depth j tree own stands.under last.0 in omega (arith, none, last.1, some)))
        (last_at items new j.parent q above)

    new_item : j ≡ new → q.populated ≡ true
    new_item is =
        let p = open_some (item_of items new.parent) place in
        ⊎_elim (λ (up : item_of items j.parent ≡ Some q). subst (λ (x : Item). x.populated ≡ true) (same_Some p.0 q (sym p.1 ∙ ap (λ (x : Item). item_of items x.parent) (sym is) ∙ up)) p.2)
        (λ (last : (item_of items j.parent ≡ None) × (new.id.0 ≡ j.parent.0) × (q ≡ new)). absurd (none-some p.0 (sym last.0 ∙ ap (λ (x : Item). item_of items x.parent) is ∙ p.1)))
        (last_at items new j.parent q above)
