-- Rows noted as they were at the last point.
use Rattle.std.specs.Prelude.{◌≡◌, ℕ, false, List, [], Option, None, Some}
use Rattle.cf_base.specs.declared.answers.AuxRecord.{AuxRecord}
use Rattle.cf_base.specs.declared.ids.ItemId.{ItemId}
use Rattle.cf_volume_points.specs.declared.earlier.Earlier.{Earlier}
use Rattle.cf_volume_image.specs.Contents.{record_at}
use Rattle.cf_model.specs.Words.{same}
use Rattle.cf_volume_points.specs.Known.{Known, record_then, row_then}
use Rattle.cf_table.specs.Tables.{RisesFrom, row_of, with_row}
use Rattle.cf_table.specs.declared.rows.Row.{Row}

-- Whatever becomes of the row with the id, it is known as it was; an item that is not there stays so.
pub record Notes (id next : ItemId) (rows : List Row) (old new : List Row) : Type 0 where
  pub others : (key : ItemId) (now : Option Row) → (key.0 ≡ id.0 → ⊥) → row_then key new next now ≡ row_then key old next now
  pub here : (now : Option Row) → (row_of rows id ≡ None → now ≡ None) → row_then id new next now ≡ row_then id old next (row_of rows id)

-- The row of an item is set as P allows, and noted as it was at the last point.
pub record SetsNoted (P : Row → Row → Type 0) (id : ItemId) (old new : Known) : Type 0 where
  pub row : Row
  pub found : row_of old.table.rows id ≡ Some row
  pub after : Row
  pub sets : P row after
  pub then' : List Row
  pub notes : Notes id old.next_then old.table.rows old.rows_then then'
  pub rises : RisesFrom 0 old.table.rows
  pub known : new ≡ record old { table = record { rows = with_row after old.table.rows; next = old.table.next }; rows_then = then' }

-- Whatever becomes of the record with the key, it is known as it was, or that there was none.
pub record NotesKey (key : List ℕ) (records old new made made' : List AuxRecord) : Type 0 where
  pub others : (k : List ℕ) (now : Option AuxRecord) → same key k ≡ false → record_then k new made' now ≡ record_then k old made now
  pub here : (now : Option AuxRecord) → record_then key new made' now ≡ record_then key old made (record_at records key)

-- Whatever became of the records since, they are known as they were at the last point.
pub record KnowKeys (old then made new then' made' : List AuxRecord) : Type 0 where
  pub same_then : (key : List ℕ) → record_then key then' made' (record_at new key) ≡ record_then key then made (record_at old key)

-- nothing has changed since the last point
pub record NotesNothing (next : ItemId) (then : Earlier) : Type 0 where
  pub rows : then.rows.rows ≡ []
  pub next_is : then.next ≡ next
  pub records : then.records ≡ []
  pub made : then.made ≡ []
