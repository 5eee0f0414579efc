-- Items that are marked, by what was tested of them.
use Rattle.std.proofs.Common.{◌≡◌, ℕ, Bool, true, false, not, List, refl, sym, ◌∙◌, ap}
use Rattle.std.specs.Prelude.{Result, Ok, Option, Some, None, ◌==◌, ◌&&◌}
use Rattle.cf_base.specs.declared.changes.Change.TheVariants as change
use Rattle.cf_base.specs.declared.codes.CallError.{CallError}
use Rattle.cf_base.specs.declared.ids.ItemId.{ItemId}
use Rattle.cf_base.specs.declared.ids.Rid.{Rid}
use Rattle.cf_base.specs.declared.ids.Usn.{Usn}
use Rattle.cf_engine_steps.specs.Answering.{Answers, Any}
use Rattle.cf_engine_steps.specs.BookReads.{is_seen_in}
use Rattle.cf_engine_steps.specs.Marks.{IsParentTarget, IsTarget, StandsIf, is_markable_at, number_at}
use Rattle.cf_engine_steps.specs.States.{Own, whole}
use Rattle.cf_engine_steps.proofs.Laws.{reads_on, returned}
use Rattle.cf_engine_steps.proofs.Lifting.{lift_reads}
use Rattle.cf_filter_steps.proofs.RowReads.{row_gone, row_read, row_there}
use Rattle.cf_filter_steps.specs.Answering as steps
use Rattle.cf_filter_steps.specs.Finding.{HasRows}
use Rattle.cf_model.specs.Books.{seen_of}
use Rattle.cf_model.specs.Identities.{is_untargeted, stands_at_seen, target_of}
use Rattle.cf_model.specs.Items.{Item, is_dirty, item_of}
use Rattle.cf_model.specs.Numbers.{no_rid, no_usn, same_usn}
use Rattle.cf_model.specs.Skips.{is_markable, mark_if, may_mark, number_of_item, try_change, try_mark, try_mark_now}
use Rattle.cf_model.specs.Words.{part, same, says}
use Rattle.cf_remote.specs.Told.{Told}
use Rattle.cf_table.specs.Means.{Means}
use Rattle.cf_table.specs.Tables.{Table, row_of}
use Rattle.cf_table.specs.declared.rows.Row.{Row}

-- targets

module _ {X : Type 0} (S : steps.Sense X) (x : X) (t : Table) (row : Row) (rows : HasRows S x t) where
  pub target_above : (parent : Row) (target : Rid) → row_of t.rows row.parent ≡ Some parent → IsTarget parent target → IsParentTarget S row x target
  target_above parent target e is = record {
    is = λ s i h m.
        let p = row_there t.rows s.volume.items row.parent parent (rows.rows s h) e in
        is.is p.0 p.2 ∙ ap (λ (o : Option Item). part target_of no_rid o) (sym p.1 ∙ ap (item_of s.volume.items) m.parent);
  }

  pub none_above : row_of t.rows row.parent ≡ None → IsParentTarget S row x no_rid
  none_above e = record { is = λ s i h m. ap (λ (o : Option Item). part target_of no_rid o) (sym (row_gone t.rows s.volume.items row.parent (rows.rows s h) e) ∙ ap (item_of s.volume.items) m.parent) }

-- paths seen

pub stands_by : {X : Type 0} (S : steps.Sense X) (x : X) (row : Row) (parent : Rid) (name : List ℕ) (b : Bool) → IsParentTarget S row x parent → name ≡ row.name → steps.Reads S steps.Any (is_seen_in row.id parent name) x b → StandsIf S row x b
stands_by S x row parent name b above same_name seen = record {
  is = λ s i h m. seen.is s h (record {}) ∙ (λ k. says (λ p. (((above.is s i h m) k).0 == p.parent.0) && same ((same_name ∙ m.name) k) p.name) (seen_of s.volume.book (m.id k)));
}

-- all tests of a mark

unsettled : (a b c d e : Bool) → (a && b && c) ≡ false → false ≡ (a && b && c && d && e)
unsettled false b c d e h = refl
unsettled true false c d e h = refl
unsettled true true false d e h = refl
unsettled true true true d e h = let z : true ≡ false = h in absurd cc

untargeted : (a b c d e : Bool) → (a && b && c) ≡ true → d ≡ true → false ≡ (a && b && c && not d && e)
untargeted true true true true e h k = refl
untargeted true true true false e h k = let z : false ≡ true = k in absurd cc
untargeted true true false d e h k = let z : false ≡ true = h in absurd cc
untargeted true false c d e h k = let z : false ≡ true = h in absurd cc
untargeted false b c d e h k = let z : false ≡ true = h in absurd cc

targeted : (a b c d e : Bool) → (a && b && c) ≡ true → d ≡ false → e ≡ (a && b && c && not d && e)
targeted true true true false e h k = refl
targeted true true true true e h k = let z : true ≡ false = k in absurd cc
targeted true true false d e h k = let z : false ≡ true = h in absurd cc
targeted true false c d e h k = let z : false ≡ true = h in absurd cc
targeted false b c d e h k = let z : false ≡ true = h in absurd cc

module _ {X : Type 0} (S : steps.Sense X) (x : X) (t : Table) (item : ItemId) (number : Usn) (rows : HasRows S x t) where
  pub markable_none : row_of t.rows item ≡ None → steps.Reads S steps.Any (is_markable_at item number) x false
  markable_none e = record { is = λ s h p. ap (says (may_mark s.volume.items s.volume.book number)) (sym (row_gone t.rows s.volume.items item (rows.rows s h) e)) }

  module _ (row : Row) (is_row : row_of t.rows item ≡ Some row) (b : Bool) (is : b ≡ (same_usn row.number number && not row.in_sync && not row.dirty)) where
    settled_so : (i : Item) → Means row i → b ≡ (same_usn i.number number && not i.in_sync && not (is_dirty i))
    settled_so i m = is ∙ (λ k. same_usn (m.number k) number && not (m.in_sync k) && not (m.bytes.dirty k))

    pub markable_not : b ≡ false → steps.Reads S steps.Any (is_markable_at item number) x false
    markable_not e = record {
      is = λ s h p.
          let r = row_there t.rows s.volume.items item row (rows.rows s h) is_row in
          unsettled (same_usn r.0.number number) (not r.0.in_sync) (not (is_dirty r.0)) (not (is_untargeted r.0)) (stands_at_seen s.volume.items s.volume.book r.0) (sym (settled_so r.0 r.2) ∙ e)
          ∙ ap (says (may_mark s.volume.items s.volume.book number)) (sym r.1);
    }

    pub markable_untargeted : (target : Rid) → b ≡ true → IsTarget row target → (target.0 == 0) ≡ true → steps.Reads S steps.Any (is_markable_at item number) x false
    markable_untargeted target e at none = record {
      is = λ s h p.
          let r = row_there t.rows s.volume.items item row (rows.rows s h) is_row in
          untargeted (same_usn r.0.number number) (not r.0.in_sync) (not (is_dirty r.0)) (is_untargeted r.0) (stands_at_seen s.volume.items s.volume.book r.0) (sym (settled_so r.0 r.2) ∙ e)
          (ap (λ (k : Rid). k.0 == 0) (sym (at.is r.0 r.2)) ∙ none)
          ∙ ap (says (may_mark s.volume.items s.volume.book number)) (sym r.1);
    }

    pub markable_by : (target : Rid) (d : Bool) → b ≡ true → IsTarget row target → (target.0 == 0) ≡ false → StandsIf S row x d → steps.Reads S steps.Any (is_markable_at item number) x d
    markable_by target d e at some stands = record {
      is = λ s h p.
          let r = row_there t.rows s.volume.items item row (rows.rows s h) is_row in
          stands.is s r.0 h r.2
          ∙ targeted (same_usn r.0.number number) (not r.0.in_sync) (not (is_dirty r.0)) (is_untargeted r.0) (stands_at_seen s.volume.items s.volume.book r.0) (sym (settled_so r.0 r.2) ∙ e)
          (ap (λ (k : Rid). k.0 == 0) (sym (at.is r.0 r.2)) ∙ some)
          ∙ ap (says (may_mark s.volume.items s.volume.book number)) (sym r.1);
    }

-- the number

pub number_by : {X : Type 0} (S : steps.Sense X) (x : X) (t : Table) (item : ItemId) (o : Option Row) (n : Usn) → HasRows S x t → row_of t.rows item ≡ o → n ≡ part (λ r. r.number) no_usn o → steps.Reads S steps.Any (number_at item) x n
number_by S x t item o n rows e is = row_read S x t item rows (λ r. r.number) (λ i. i.number) no_usn (λ r i h. h.number) o n e is

-- as the code comes to them

module _ {X R : Type 0} (S : steps.Sense X) (told : R → Told) (item : ItemId) (x y : X) (e f : Own R) (r : Result Bool CallError) where
  pub marked : (n : Usn) (b : Bool) → steps.Reads S steps.Any (is_markable_at item n) x b → b ≡ true → Answers (whole S told) Any (try_change (change.Mark item n)) (x, e) r (y, f) → Answers (whole S told) Any (try_mark item n) (x, e) r (y, f)
  marked n true h is k = reads_on (whole S told) Any (is_markable item n) (mark_if item n) (x, e) (y, f) true r (lift_reads S told steps.Any (is_markable_at item n) x e true h) k
  marked n false h is k = let z : false ≡ true = is in absurd cc

  pub marked_now : (n : Usn) → steps.Reads S steps.Any (number_at item) x n → Answers (whole S told) Any (try_mark item n) (x, e) r (y, f) → Answers (whole S told) Any (try_mark_now item) (x, e) r (y, f)
  marked_now n h k = reads_on (whole S told) Any (number_of_item item) (try_mark item) (x, e) (y, f) n r (lift_reads S told steps.Any (number_at item) x e n h) k

pub not_marked : {X R : Type 0} (S : steps.Sense X) (told : R → Told) (item : ItemId) (x : X) (e : Own R) (n : Usn) (b : Bool) → steps.Reads S steps.Any (is_markable_at item n) x b → b ≡ false → Answers (whole S told) Any (try_mark item n) (x, e) (Ok true) (x, e)
not_marked S told item x e n false h is = reads_on (whole S told) Any (is_markable item n) (mark_if item n) (x, e) (x, e) false (Ok true) (lift_reads S told steps.Any (is_markable_at item n) x e false h) (returned (whole S told) Any true (x, e))
not_marked S told item x e n true h is = let z : true ≡ false = is in absurd cc
