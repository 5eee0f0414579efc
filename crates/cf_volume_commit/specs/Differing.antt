-- What differs from the last point, by what is noted of it.
use Rattle.std.specs.Prelude.{ℕ, Bool, not, List, length, map, filter, nat_lt, option_map, is_some, cond, Option, Some, None, ◌≡◌, ◌&&◌, ◌||◌}
use Rattle.cf_base.specs.declared.answers.AuxRecord.{AuxRecord}
use Rattle.cf_base.specs.declared.ids.ItemId.{ItemId}
use Rattle.cf_volume_points.specs.declared.earlier.Earlier.{Earlier}
use Rattle.cf_volume_image.specs.Contents.{payload_of, record_at, row_at}
use Rattle.cf_volume_image.specs.Spelled.{AreRecordsFrom}
use Rattle.cf_volume_image.specs.declared.contents.Contents.{Contents}
use Rattle.cf_model.specs.Formats.{Image, Payload, spell_payload}
use Rattle.cf_volume_points.specs.Known.{RowsRise, record_then, row_then}
use Rattle.cf_table.specs.Spelling.{row_value}
use Rattle.cf_table.specs.Tables.{row_of}
use Rattle.cf_table.specs.declared.rows.Row.{Row}

-- Noted is how the image of the last point differs from the contents now.
pub record IsThen (then : Earlier) (c : Contents) (i : Image) : Type 0 where
  pub rows : (id : ItemId) → row_at i.rows id ≡ option_map row_value (row_then id then.rows.rows then.next (row_of c.rows.rows id))
  pub records : (key : List ℕ) → record_at i.records key ≡ record_then key then.records then.made (record_at c.records key)
  pub rise : RowsRise 0 i.rows
  pub keys_rise : AreRecordsFrom None i.records

-- the row is a new one, or noted
abbrev pub is_row_changed : Earlier → Row → Bool
is_row_changed then r = not (nat_lt r.id.0 then.next.0) || is_some (row_of then.rows.rows r.id)

abbrev pub changed_rows : Earlier → List Row → List ItemId
changed_rows then rows = map (λ r. r.id) (filter (is_row_changed then) rows)

-- the same by what is noted: rows that are still there, and new ones behind them

abbrev pub is_new : ItemId → Row → Bool
is_new next r = not (nat_lt r.id.0 next.0)

abbrev pub is_row_left : Earlier → List Row → Row → Bool
is_row_left then rows r = nat_lt r.id.0 then.next.0 && is_some (row_of rows r.id)

abbrev pub rows_left : Earlier → List Row → List ItemId
rows_left then rows = map (λ r. r.id) (filter (is_row_left then rows) then.rows.rows)

-- Those of the keys that pass the test which a record has now stand among the new ones, beside the old.
pub record AddsKeys (now : List AuxRecord) (test : List ℕ → Bool) (old new : List AuxRecord) : Type 0 where
  pub each : (key : List ℕ) → is_some (record_at new key) ≡ (is_some (record_at old key) || (is_some (record_at now key) && test key))

-- the noted row is there no more
abbrev pub is_row_gone : Earlier → List Row → Row → Bool
is_row_gone then rows r = nat_lt r.id.0 then.next.0 && not (is_some (row_of rows r.id))

abbrev pub removed_rows : Earlier → List Row → List ItemId
removed_rows then rows = map (λ r. r.id) (filter (is_row_gone then rows) then.rows.rows)

abbrev pub is_record_changed : Earlier → AuxRecord → Bool
is_record_changed then r = is_some (record_at then.made r.key) || is_some (record_at then.records r.key)

abbrev pub changed_keys : Earlier → List AuxRecord → List (List ℕ)
changed_keys then records = map (λ r. r.key) (filter (is_record_changed then) records)

abbrev pub is_record_gone : Earlier → List AuxRecord → AuxRecord → Bool
is_record_gone then records r = not (is_some (record_at then.made r.key)) && not (is_some (record_at records r.key))

-- the keys of these records that are there no more
abbrev pub keys_in : Earlier → List AuxRecord → List AuxRecord → List (List ℕ)
keys_in then records noted = map (λ r. r.key) (filter (is_record_gone then records) noted)

abbrev pub removed_keys : Earlier → List AuxRecord → List (List ℕ)
removed_keys then records = keys_in then records then.records

-- the payload of what differs
abbrev pub payload_now : Earlier → Contents → Payload
payload_now then c =
    payload_of c (removed_rows then c.rows.rows) (changed_rows then c.rows.rows) (removed_keys then c.records) (changed_keys then c.records)

-- each of its lists has fewer entries than a journal has bytes
abbrev pub is_short_payload : Earlier → Contents → Bool
is_short_payload then c =
    nat_lt (length (removed_rows then c.rows.rows)) 262144 && nat_lt (length (changed_rows then c.rows.rows)) 262144
    && nat_lt (length (removed_keys then c.records)) 262144 && nat_lt (length (changed_keys then c.records)) 262144

-- the payload's text, where it is short
abbrev pub text_of : Earlier → Contents → Option (List ℕ)
text_of then c = cond (is_short_payload then c) (Some (spell_payload (payload_now then c))) None
