-- Items that move off a name, as they are found.
use Rattle.std.proofs.Common.{◌≡◌, Bool, true, false, List, refl, sym, ◌∙◌, ap, subst, ℕ}
use Rattle.std.specs.Prelude.{Result, Ok, Option, Some, None, find, ◌==◌}
use Rattle.cf_base.specs.declared.changes.Change.{Change}
use Rattle.cf_base.specs.declared.changes.Change.TheVariants as change
use Rattle.cf_base.specs.declared.codes.CallError.{CallError}
use Rattle.cf_base.specs.declared.ids.ItemId.{ItemId}
use Rattle.cf_engine_steps.specs.Answering.{After, Answers, Any, On}
use Rattle.cf_engine_steps.specs.Occupants.{HasConflictName, IsConflict, IsOccupant, IsTheItem}
use Rattle.cf_engine_steps.specs.States.{Own, whole}
use Rattle.cf_engine_steps.proofs.Laws.{returned}
use Rattle.cf_filter_steps.proofs.RowReads.{row_there}
use Rattle.cf_filter_steps.specs.Answering.{IsAt, Sense}
use Rattle.cf_filter_steps.specs.Finding.{HasRows}
use Rattle.cf_model.specs.ConflictNames.{conflict_name}
use Rattle.cf_model.specs.Items.{Item, item_of}
use Rattle.cf_model.specs.LookUp.{child_of, is_child_named}
use Rattle.cf_model.specs.Skips.{if_other, move_off, to_conflict, try_change, try_clear_name}
use Rattle.cf_model.specs.State.{State}
use Rattle.cf_model.specs.Trees.{Does}
use Rattle.cf_model.specs.Words.{part}
use Rattle.cf_remote.specs.Told.{Told}
use Rattle.cf_table.specs.Tables.{MeansAll, Table, id_of, is_child_row, row_of}
use Rattle.cf_table.specs.declared.rows.Row.{Row}
use Rattle.cf_tree.proofs.Alike.{BothMean, rows_by_name}
use Rattle.cf_tree.proofs.Walks.{by_own_id, own_id}

-- where an item moves to

pub conflict_named : {X : Type 0} (S : Sense X) (x : X) (t : Table) (row : Row) (name new : List ℕ) → HasRows S x t → name ≡ row.name → ((items : List Item) → MeansAll t.rows items → new ≡ conflict_name items row.parent name) → HasConflictName S row x new
conflict_named S x t row name new rows same named = record { is = λ s m. named s.volume.items (rows.rows s m) ∙ ap (conflict_name s.volume.items row.parent) same }

one_item : (o : Option Item) (i j : Item) → o ≡ Some i → o ≡ Some j → i ≡ j
one_item o i j h k = let z : ◌≡◌ {A = Option Item} (Some i) (Some j) = sym h ∙ k in cc

pub conflict_by : {X : Type 0} (S : Sense X) (x : X) (t : Table) (item : ItemId) (row : Row) (name : List ℕ) → HasRows S x t → row_of t.rows item ≡ Some row → HasConflictName S row x name → IsConflict S item x (change.Move item row.parent name)
conflict_by S x t item row name rows e named = record {
  is = λ s i m at.
      let p = row_there t.rows s.volume.items item row (rows.rows s m) e in
      let same : p.0 ≡ i = one_item (item_of s.volume.items item) p.0 i p.1 at in
      let own : item ≡ i.id = own_id s.volume.items item i at in
      let parent : row.parent ≡ i.parent = p.2.parent ∙ ap (λ (j : Item). j.parent) same in
      let under : row.name ≡ i.name = p.2.name ∙ ap (λ (j : Item). j.name) same in
      let to : name ≡ conflict_name s.volume.items i.parent i.name = named.is s m ∙ (λ k. conflict_name s.volume.items (parent k) (under k)) in
      λ k. change.Move (own k) (parent k) (to k);
}

module _ {X R : Type 0} (S : Sense X) (told : R → Told) (x y : X) (e f : Own R) (r : Result Bool CallError) where
  pub conflict_on : (item : ItemId) (c : Change) → IsConflict S item x c → Answers (whole S told) Any (try_change c) (x, e) r (y, f) → (i : Item) → Answers (whole S told) (On (IsAt item i)) (to_conflict i) (x, e) r (y, f)
  conflict_on item c is k i = record {
    leads = λ s m at.
        subst (λ (d : Change). (t : State) × Does (try_change d s) r t × (whole S told).moved (x, e) (y, f) s t × After (whole S told) (x, e) r (y, f) s t) (is.is s.filter i m.filter at) (k.leads s m (record {}));
  }

  -- whoever stands at a name
  pub cleared : (parent : ItemId) (name : List ℕ) (but : ItemId) (o : Option ItemId) (item : ItemId) → IsOccupant S parent name but x o → o ≡ Some item → ((i : Item) → Answers (whole S told) (On (IsAt item i)) (to_conflict i) (x, e) r (y, f))
      → Answers (whole S told) Any (try_clear_name parent name but) (x, e) r (y, f)
  cleared parent name but o item is eq k = record {
    leads = λ s m p.
        let h = subst (λ (q : Option ItemId). IsTheItem s.filter.volume.items q (part (if_other but) None (child_of s.filter.volume.items parent name))) eq (is.is s.filter m.filter) in
        subst (λ (q : Option Item). (t : State) × Does (move_off q s) r t × (whole S told).moved (x, e) (y, f) s t × After (whole S told) (x, e) r (y, f) s t) (sym h.1) ((k h.0).leads s m h.2);
  }

pub free_already : {X R : Type 0} (S : Sense X) (told : R → Told) (x : X) (e : Own R) (parent : ItemId) (name : List ℕ) (but : ItemId) (o : Option ItemId) → IsOccupant S parent name but x o → o ≡ None → Answers (whole S told) Any (try_clear_name parent name but) (x, e) (Ok true) (x, e)
free_already S told x e parent name but o is eq = record {
  leads = λ s m p.
      let h = subst (λ (q : Option ItemId). IsTheItem s.filter.volume.items q (part (if_other but) None (child_of s.filter.volume.items parent name))) eq (is.is s.filter m.filter) in
      subst (λ (q : Option Item). (t : State) × Does (move_off q s) (Ok true) t × (whole S told).moved (x, e) (x, e) s t × After {A = Bool} (whole S told) (x, e) (Ok true) (x, e) s t) (sym h) ((returned (whole S told) Any true (x, e)).leads s m (record {}));
}

child_none : (o : Option Row) (q : Option Item) → BothMean o q → None ≡ id_of o → q ≡ None
child_none None None h e = refl
child_none None (Some i) h e = absurd h
child_none (Some r) q h e = let z : ◌≡◌ {A = Option ItemId} None (Some r.id) = e in absurd cc

child_there : (o : Option Row) (q : Option Item) (id : ItemId) → BothMean o q → Some id ≡ id_of o → (i : Item) × (q ≡ Some i) × (id ≡ i.id)
child_there None q id h e = let z : ◌≡◌ {A = Option ItemId} (Some id) None = e in absurd cc
child_there (Some r) None id h e = absurd h
child_there (Some r) (Some i) id h e = let same : id ≡ r.id = cc in (i, refl, same ∙ h.id)

other_is : (i : Item) (but : ItemId) (b : Bool) → (i.id.0 == but.0) ≡ b → if_other but i ≡ elim b as (λ _. Option Item) [ true ↦ None | false ↦ Some i ]
other_is i but b e = ap (λ (c : Bool). elim c as (λ _. Option Item) [ true ↦ None | false ↦ Some i ]) e

module _ {X : Type 0} (S : Sense X) (x : X) (t : Table) (parent : ItemId) (name bytes : List ℕ) (but : ItemId) (o : Option ItemId) (rows : HasRows S x t) (same : bytes ≡ name) (found : o ≡ id_of (find (is_child_row parent bytes) t.rows)) where
  found_so : o ≡ id_of (find (is_child_row parent name) t.rows)
  found_so = found ∙ ap (λ (n : List ℕ). id_of (find (is_child_row parent n) t.rows)) same

  pub nobody : o ≡ None → IsOccupant S parent name but x None
  nobody e = record {
    is = λ s m. ap (part (if_other but) None) (child_none (find (is_child_row parent name) t.rows) (child_of s.volume.items parent name) (rows_by_name t.rows s.volume.items parent name (rows.rows s m)) (sym e ∙ found_so));
  }

  pub only_it : (id : ItemId) → o ≡ Some id → (id.0 == but.0) ≡ true → IsOccupant S parent name but x None
  only_it id e is = record {
    is = λ s m.
        let h = child_there (find (is_child_row parent name) t.rows) (child_of s.volume.items parent name) id (rows_by_name t.rows s.volume.items parent name (rows.rows s m)) (sym e ∙ found_so) in
        ap (part (if_other but) None) h.1 ∙ other_is h.0 but true (ap (λ (k : ItemId). k.0 == but.0) (sym h.2) ∙ is);
  }

  pub somebody : (id : ItemId) → o ≡ Some id → (id.0 == but.0) ≡ false → IsOccupant S parent name but x (Some id)
  somebody id e is = record {
    is = λ s m.
        let h = child_there (find (is_child_row parent name) t.rows) (child_of s.volume.items parent name) id (rows_by_name t.rows s.volume.items parent name (rows.rows s m)) (sym e ∙ found_so) in (
          h.0,
          ap (part (if_other but) None) h.1 ∙ other_is h.0 but false (ap (λ (k : ItemId). k.0 == but.0) (sym h.2) ∙ is),
          subst (λ (k : ItemId). item_of s.volume.items k ≡ Some h.0) (sym h.2) (by_own_id 1 (is_child_named parent name) s.volume.items h.0 (S.good x s m).volume.tree.order h.1),
        );
  }
