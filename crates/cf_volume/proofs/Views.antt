-- What is said of a volume by its view.
use Rattle.std.proofs.Common.{◌≡◌, List, Option, ◌∙◌, subst}
use Rattle.cf_disk.specs.Disk.{Leaves, State}
use Rattle.cf_base.specs.declared.answers.AuxRecord.{AuxRecord}
use Rattle.cf_model.specs.Books.{Book}
use Rattle.cf_model.specs.Formats.{with_records}
use Rattle.cf_model.specs.State.{Volume}
use Rattle.cf_base.specs.declared.ids.ItemId.{ItemId}
use Rattle.cf_volume_points.specs.At.{At}
use Rattle.cf_volume_points.specs.Known.{Known}
use Rattle.cf_table.specs.Tables.{row_of}
use Rattle.cf_volume_changes.specs.Calls.{HasRecords, IsHere, OnDisk, put_record}
use Rattle.std.specs.Prelude.{ℕ}

pub seen_at : {D : Type 0} {a b : OnDisk D} → (state : D → State) (v : Volume) → a ≡ b → At (state a.disk) a.known v → At (state b.disk) b.known v
seen_at {D} {a} {b} state v e at = subst (λ (o : OnDisk D). At (state o.disk) o.known v) e at

pub seen_here : {D : Type 0} {a b : OnDisk D} → (id : ItemId) (start end : ℕ) → a ≡ b → IsHere (row_of a.known.table.rows id) start end → IsHere (row_of b.known.table.rows id) start end
seen_here {D} {a} {b} id start end e here = subst (λ (o : OnDisk D). IsHere (row_of o.known.table.rows id) start end) e here

pub seen_leaves : {D : Type 0} {a b : OnDisk D} → (state : D → State) (t : State) (P : List ℕ → Type 0) → a ≡ b → Leaves (state a.disk) t P → Leaves (state b.disk) t P
seen_leaves {D} {a} {b} state t P e leaves = subst (λ (o : OnDisk D). Leaves (state o.disk) t P) e leaves

pub seen_records : {D : Type 0} {a b : OnDisk D} → (old new : Book) (key : List ℕ) (value : Option (List ℕ)) → a ≡ b → HasRecords old (put_record key value a.known.records) new → HasRecords old (put_record key value b.known.records) new
seen_records {D} {a} {b} old new key value e has = subst (λ (o : OnDisk D). HasRecords old (put_record key value o.known.records) new) e has

pub seen_listed : {D : Type 0} {a b : OnDisk D} → (old new : Book) (list : List AuxRecord) → a ≡ b → HasRecords old (with_records list a.known.records) new → HasRecords old (with_records list b.known.records) new
seen_listed {D} {a} {b} old new list e has = subst (λ (o : OnDisk D). HasRecords old (with_records list o.known.records) new) e has

pub seen_known : {D : Type 0} {a : OnDisk D} → (disk : D) (old new : Known) → record { disk = disk; known = old } ≡ a → new ≡ old → record { disk = disk; known = new } ≡ a
seen_known {D} {a} disk old new view same = (λ j. record { disk = disk; known = same j }) ∙ view
