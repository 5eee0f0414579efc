-- Auxiliary records put beside those of a draft.
use Rattle.std.specs.List.{list_any}
use Rattle.std.specs.Prelude.{◌≡◌, ◌+◌, ℕ, List, is_some, sum_by, None}
use Rattle.cf_base.specs.declared.answers.AuxRecord.{AuxRecord}
use Rattle.cf_base.specs.declared.ids.ItemId.{ItemId}
use Rattle.cf_volume_image.specs.Contents.{record_at}
use Rattle.cf_volume_image.specs.Spelled.{AreRecordsFrom}
use Rattle.cf_model.specs.Formats.{with_records}
use Rattle.cf_model.specs.Images.{aux_len}
use Rattle.cf_model.specs.Words.{same}
use Rattle.cf_volume_points.specs.Known.{or_now}
use Rattle.cf_volume_changes.specs.Drafts.{records_in}
use Rattle.cf_volume_changes.specs.Keys.{seen_key}
use Rattle.cf_volume_changes.specs.declared.room.records.Beside.{Beside}

-- a record with the key of each of those that the gone items took away, and no other
abbrev pub AreTaken : List ItemId → List AuxRecord → Type 0
AreTaken gone taken = (key : List ℕ) → is_some (record_at taken key) ≡ list_any (λ id. same (seen_key id) key) gone

-- The first of the records are put, and the rest makes all of them. What was put is found first, then the records without
-- those that the gone items took away.
pub record Besides (gone : List ItemId) (records : List AuxRecord) (t : Beside) (rest all : List AuxRecord) : Type 0 where
  pub made : List AuxRecord
  pub ends : with_records rest made ≡ with_records all (records_in gone records)
  pub rise : AreRecordsFrom None made
  pub found : (key : List ℕ) → record_at made key ≡ or_now (record_at t.put key) (record_at (records_in gone records) key)
  pub len : sum_by aux_len made + t.less ≡ sum_by aux_len (records_in gone records) + t.more
