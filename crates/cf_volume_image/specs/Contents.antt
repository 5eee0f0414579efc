-- What a volume says of its items, as an image and as a payload.
use Rattle.std.specs.Prelude.{ℕ, List, [], map, Option, Some, None, find, ◌==◌, ◌∷◌}
use Rattle.cf_base.specs.declared.answers.AuxRecord.{AuxRecord}
use Rattle.cf_base.specs.declared.ids.ItemId.{ItemId}
use Rattle.cf_volume_image.specs.declared.contents.Contents.{Contents}
use Rattle.cf_volume_image.specs.declared.part_reads.Header.{Header as Read}
use Rattle.cf_volume_image.specs.declared.payload_reads.Changes.{Changes}
use Rattle.cf_model.specs.Formats.{Header, Image, Payload}
use Rattle.cf_model.specs.Rows.{Row}
use Rattle.cf_model.specs.Words.{same}
use Rattle.cf_table.specs.Spelling.{row_value}

abbrev pub header_of : Contents → Header
header_of c = record { last = c.last; count = c.count; next = c.rows.next; clock = c.clock }

abbrev pub read_header_of : Read → Header
read_header_of h = record { last = h.last; count = h.count; next = h.next; clock = h.clock }

abbrev pub image_of : Contents → Image
image_of c = record { header = header_of c; rows = map row_value c.rows.rows; records = c.records }

abbrev pub row_at : List Row → ItemId → Option Row
row_at rows id = find (λ r. r.id.0 == id.0) rows

abbrev pub record_at : List AuxRecord → List ℕ → Option AuxRecord
record_at records key = find (λ r. same r.key key) records

-- the value in front, if there is one
abbrev pub in_front : {A : Type 0} → Option A → List A → List A
in_front None xs = xs
in_front (Some x) xs = x ∷ xs

abbrev pub one_row : List Row → ItemId → List Row
one_row rows id = in_front (row_at rows id) []

abbrev pub one_record : List AuxRecord → List ℕ → List AuxRecord
one_record records key = in_front (record_at records key) []

-- the rows with these ids that are there
abbrev pub rows_at : List Row → List ItemId → List Row
rows_at rows [] = []
rows_at rows (id ∷ ids) = in_front (row_at rows id) (rows_at rows ids)

abbrev pub records_at : List AuxRecord → List (List ℕ) → List AuxRecord
records_at records [] = []
records_at records (key ∷ keys) = in_front (record_at records key) (records_at records keys)

-- what is removed, and what there is now of the rows and records that changed
abbrev pub payload_of : Contents → List ItemId → List ItemId → List (List ℕ) → List (List ℕ) → Payload
payload_of c removed changed removed_keys changed_keys = record {
  header = header_of c;
  removed = removed;
  rows = rows_at (map row_value c.rows.rows) changed;
  removed_keys = removed_keys;
  records = records_at c.records changed_keys;
}

-- a payload as it is read
abbrev pub changes_of : Changes → Payload
changes_of c = record {
  header = read_header_of c.header;
  removed = c.removed.items;
  rows = map row_value c.rows.items;
  removed_keys = c.removed_keys.items;
  records = c.records;
}
