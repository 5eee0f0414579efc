-- Done of an upload, by whether its item is there.
use Rattle.std.proofs.Common.{◌≡◌, sym, ◌∙◌, subst}
use Rattle.std.specs.Prelude.{Result, Option, Some, None}
use Rattle.cf_base.specs.declared.changes.Change.{Change}
use Rattle.cf_base.specs.declared.changes.Change.TheVariants as change
use Rattle.cf_base.specs.declared.codes.CallError.{CallError}
use Rattle.cf_base.specs.declared.ids.Rid.{Rid}
use Rattle.cf_base.specs.declared.ids.Version.{Version}
use Rattle.cf_engine_steps.specs.Answering.{After, Answers, Any}
use Rattle.cf_engine_steps.specs.States.{Own, whole}
use Rattle.cf_filter_steps.specs.Answering as steps
use Rattle.cf_filter_steps.specs.Finding.{HasRows}
use Rattle.cf_filter_steps.proofs.RowReads.{row_gone, row_there}
use Rattle.cf_model.specs.Books.{QueueEntry}
use Rattle.cf_model.specs.Identities.{identity_for}
use Rattle.cf_model.specs.Items.{Item}
use Rattle.cf_model.specs.PushReplies.{bury_new, done_upload, done_upload_on, rebase, rebase_of}
use Rattle.cf_model.specs.State.{State}
use Rattle.cf_model.specs.Trees.{Does}
use Rattle.cf_remote.specs.Told.{Told}
use Rattle.cf_table.specs.Means.{Means}
use Rattle.cf_table.specs.Tables.{Table, row_of}
use Rattle.cf_table.specs.declared.rows.Row.{Row}

rebase_by : (d : QueueEntry) (rid : Rid) (version : Version) (row : Row) (i : Item) → Means row i → change.Rebase row.id (identity_for row.dir rid version) row.size d.number ≡ rebase_of d rid version i
rebase_by d rid version row i h = λ j. change.Rebase (h.id j) (identity_for (h.directory j) rid version) (h.bytes.size j) d.number

module _ {X R : Type 0} (S : steps.Sense X) (told : R → Told) (d : QueueEntry) (rid : Rid) (version : Version) (t : Table) (x y : X) (e f : Own R) (r : Result (Unit {0}) CallError) (rows : HasRows S x t) where
  abbrev Leads : State → Option Item → Type 0
  Leads s o = (u : State) × Does (done_upload_on d rid version o s) r u × (whole S told).moved (x, e) (y, f) s u × After (whole S told) (x, e) r (y, f) s u

  pub upload_here : (row : Row) (c : Change) → row_of t.rows d.item ≡ Some row → c ≡ change.Rebase row.id (identity_for row.dir rid version) row.size d.number
      → Answers (whole S told) Any (rebase d c) (x, e) r (y, f) → Answers (whole S told) Any (done_upload d rid version) (x, e) r (y, f)
  upload_here row c there is h = record {
    leads = λ s m p.
        let i = row_there t.rows s.filter.volume.items d.item row (rows.rows s.filter m.filter) there in
        subst (Leads s) (sym i.1) (subst (λ (k : Change). (u : State) × Does (rebase d k s) r u × (whole S told).moved (x, e) (y, f) s u × After (whole S told) (x, e) r (y, f) s u) (is ∙ rebase_by d rid version row i.0 i.2) (h.leads s m p));
  }

  pub upload_gone : row_of t.rows d.item ≡ None → Answers (whole S told) Any (bury_new d rid version) (x, e) r (y, f) → Answers (whole S told) Any (done_upload d rid version) (x, e) r (y, f)
  upload_gone gone h = record {
    leads = λ s m p. subst (Leads s) (sym (row_gone t.rows s.filter.volume.items d.item (rows.rows s.filter m.filter) gone)) (h.leads s m p);
  }
