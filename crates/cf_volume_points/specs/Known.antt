-- What a program knows of a volume, as plain values.
use Rattle.std.specs.Prelude.{◌≤◌, ◌+◌, ℕ, Bool, List, [], ◌∷◌, Option, Some, None, cond, find, nat_lt}
use Rattle.std.specs.List.{list_any}
use Rattle.cf_base.specs.declared.answers.AuxRecord.{AuxRecord}
use Rattle.cf_base.specs.declared.ids.ItemId.{ItemId}
use Rattle.cf_clusters.specs.declared.uses.Use.{Use}
use Rattle.cf_journal.specs.declared.journals.Journal.{Journal}
use Rattle.cf_model.specs.Rows as model
use Rattle.cf_model.specs.Words.{same}
use Rattle.cf_table.specs.Tables.{Table, row_of}
use Rattle.cf_table.specs.declared.rows.Row.{Row}

pub record Known : Type 0 where
  pub journal : Journal
  pub uses : List Use
  pub table : Table
  pub records : List AuxRecord
  pub epoch : ℕ
  pub place : ℕ
  pub count : ℕ
  pub clock : ℕ
  -- rows of the last point that changed since, as they were at it, and the id that the next item got then
  pub rows_then : List Row
  pub next_then : ItemId
  -- the same of records, and the keys of those that were not there at the last point
  pub records_then : List AuxRecord
  pub keys_made : List AuxRecord
  -- how many changes the last point has, and the clock then
  pub kept : ℕ
  pub clock_then : ℕ
  -- how many clusters the volume may use, how many it used at the last point, and how many blocks changes put since
  pub limit : ℕ
  pub used_then : ℕ
  pub put_since : ℕ
  pub broken : Bool

-- the ids rise, from low on
abbrev pub RowsRise : ℕ → List model.Row → Type 0
RowsRise low [] = Unit {0}
RowsRise low (r ∷ rs) = (low ≤ r.id.0) × RowsRise (r.id.0 + 1) rs

-- the one that is kept, if there is one, and else the other
abbrev pub or_now : {A : Type 0} → Option A → Option A → Option A
or_now None now = now
or_now (Some x) now = Some x

-- the row with the id at the last point, by the one now
abbrev pub row_then : ItemId → List Row → ItemId → Option Row → Option Row
row_then id rows next now = cond (nat_lt id.0 next.0) (or_now (row_of rows id) now) None

-- the record with the key at the last point, by the one now
abbrev pub record_then : List ℕ → List AuxRecord → List AuxRecord → Option AuxRecord → Option AuxRecord
record_then key records made now = cond (list_any (λ r. same r.key key) made) None (or_now (find (λ r. same r.key key) records) now)
