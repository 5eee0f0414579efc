-- What a reply reads of the engine's own, of an item and of a tombstone.
use Rattle.std.proofs.Common.{◌≡◌, Bool, refl, sym, ◌∙◌, ap, subst}
use Rattle.std.specs.Prelude.{Result, Ok, Err, Option, Some, None, option_map, ◌==◌}
use Rattle.cf_base.specs.declared.codes.CallError.{CallError}
use Rattle.cf_base.specs.declared.ids.Usn.{Usn}
use Rattle.cf_engine_queue.specs.Books.{tombstone_value}
use Rattle.cf_engine_queue.specs.declared.uploads.Tombstone.{Tombstone}
use Rattle.cf_engine_replies.specs.Refusals.{moved_off}
use Rattle.cf_engine_replies.specs.Removals.{was_directory_at}
use Rattle.cf_engine_replies.proofs.Parts.{whatever_done}
use Rattle.cf_engine_steps.specs.Answering.{After, Answers, Any, On, Reads}
use Rattle.cf_engine_steps.specs.BookReads.{tombstone_in}
use Rattle.cf_engine_steps.specs.States.{Own, whole}
use Rattle.cf_engine_steps.proofs.Laws.{fails_first, returned}
use Rattle.cf_filter_steps.specs.Answering as steps
use Rattle.cf_filter_steps.specs.Finding.{HasRows}
use Rattle.cf_filter_steps.proofs.RowReads.{row_gone, row_there}
use Rattle.cf_model.specs.Arrows.{unit}
use Rattle.cf_model.specs.Books.{QueueEntry}
use Rattle.cf_model.specs.Items.{Item}
use Rattle.cf_model.specs.PushReplies.{end_tombstone, move_away, was_directory, whatever}
use Rattle.cf_model.specs.Skips.{to_conflict}
use Rattle.cf_model.specs.State.{State, Volatile}
use Rattle.cf_model.specs.Trees.{Does}
use Rattle.cf_model.specs.Words.{says}
use Rattle.cf_engine_replies.specs.Removals.{removal_ended}
use Rattle.cf_engine_replies.proofs.Parts.{reads_as}
use Rattle.cf_remote.specs.Told.{Told}
use Rattle.cf_table.specs.Tables.{Table, row_of}
use Rattle.cf_table.specs.declared.rows.Row.{Row}

-- what is known until the volume is opened again
pub known_of : {X R V : Type 0} (S : steps.Sense X) (told : R → Told) (v : Volatile → V) (x : X) (e : Own R) (r : V) → r ≡ v e.volatile → Reads (whole S told) Any (λ s. v s.volatile) (x, e) r
known_of S told v x e r is = record { is = λ s m p. is ∙ ap v m.volatile }

-- an item that moves to its conflict name, where it is there

module _ {X R : Type 0} (S : steps.Sense X) (told : R → Told) (d : QueueEntry) (t : Table) (x y : X) (e f : Own R) (rows : HasRows S x t) where
  abbrev Moves : Result (Unit {0}) CallError → State → Option Item → Type 0
  Moves r s o = (u : State) × Does (move_away o s) r u × (whole S told).moved (x, e) (y, f) s u × After (whole S told) (x, e) r (y, f) s u

  pub moved : (row : Row) (b : Bool) → row_of t.rows d.item ≡ Some row → ((i : Item) → Answers (whole S told) (On (steps.IsAt d.item i)) (to_conflict i) (x, e) (Ok b) (y, f)) → Answers (whole S told) Any (moved_off d) (x, e) (Ok unit) (y, f)
  moved row b there h = record {
    leads = λ s m p.
        let i = row_there t.rows s.filter.volume.items d.item row (rows.rows s.filter m.filter) there in
        subst (Moves (Ok unit) s) (sym i.1) ((whatever_done (whole S told) (On (steps.IsAt d.item i.0)) (to_conflict i.0) (x, e) (y, f) b (h i.0)).leads s m i.1);
  }

  pub not_moved : (row : Row) (q : CallError) → row_of t.rows d.item ≡ Some row → ((i : Item) → Answers (whole S told) (On (steps.IsAt d.item i)) (to_conflict i) (x, e) (Err q) (y, f)) → Answers (whole S told) Any (moved_off d) (x, e) (Err q) (y, f)
  not_moved row q there h = record {
    leads = λ s m p.
        let i = row_there t.rows s.filter.volume.items d.item row (rows.rows s.filter m.filter) there in
        subst (Moves (Err q) s) (sym i.1) ((fails_first (whole S told) (On (steps.IsAt d.item i.0)) (to_conflict i.0) whatever (x, e) (y, f) q (h i.0)).leads s m i.1);
  }

pub none_moved : {X R : Type 0} (S : steps.Sense X) (told : R → Told) (d : QueueEntry) (t : Table) (x : X) (e : Own R) → HasRows S x t → row_of t.rows d.item ≡ None → Answers (whole S told) Any (moved_off d) (x, e) (Ok unit) (x, e)
none_moved S told d t x e rows gone = record {
  leads = λ s m p.
      subst (Moves S told d t x x e e rows (Ok unit) s) (sym (row_gone t.rows s.filter.volume.items d.item (rows.rows s.filter m.filter) gone)) ((returned (whole S told) Any unit (x, e)).leads s m p);
}

-- the tombstone of a directory

pub directory_by : {X : Type 0} (S : steps.Sense X) (number : Usn) (x : X) (o : Option Tombstone) (p : Option Tombstone) (b : Bool) → steps.Reads S steps.Any (tombstone_in number) x (option_map tombstone_value o) → o ≡ p → b ≡ says (λ t. t.version.0 == 0) (option_map tombstone_value p)
    → steps.Reads S steps.Any (was_directory_at number) x b
directory_by S number x o p b h same is = record {
  is = λ s m u. is ∙ ap (λ (z : Option Tombstone). says (λ t. t.version.0 == 0) (option_map tombstone_value z)) (sym same) ∙ ap (λ z. says (λ t. t.version.0 == 0) z) (h.is s m u);
}

pub ended_by : {X R : Type 0} (S : steps.Sense X) (told : R → Told) (d : QueueEntry) (b : Bool) (x y : X) (e f : Own R) (r : Result (Unit {0}) CallError) → steps.Reads S steps.Any (was_directory_at d.number) x b
    → Answers (whole S told) Any (end_tombstone d b) (x, e) r (y, f) → Answers (whole S told) Any (removal_ended d) (x, e) r (y, f)
ended_by S told d b x y e f r reads h = reads_as (whole S told) (was_directory d) (end_tombstone d) (x, e) (y, f) b b r refl (record { is = λ s m p. reads.is s.filter m.filter p }) h
