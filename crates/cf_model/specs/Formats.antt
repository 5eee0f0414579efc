-- Images and payloads of format 2: what a volume writes of its table.
use Rattle.std.specs.Prelude.{ℕ, Bool, not, List, [], length, filter, nat_lt, ◌∷◌, ◌++◌, ◌==◌}
use Rattle.std.specs.List.{flat_map, list_any}
use Rattle.cf_base.specs.declared.answers.AuxRecord.{AuxRecord}
use Rattle.cf_base.specs.declared.ids.ItemId.{ItemId}
use Rattle.cf_base.specs.declared.ids.Usn.{Usn}
use Rattle.cf_model.specs.Books.{usn_bytes}
use Rattle.cf_model.specs.Rows.{Row, spell_row}
use Rattle.cf_model.specs.Words.{comes_before, in_bytes, put_in, same}

-- the epoch and its last place, how many changes there were, the next item, and the clock
pub record Header : Type 0 where
  pub last : Usn
  pub count : ℕ
  pub next : ItemId
  pub clock : ℕ

-- rows stand by id, auxiliary records by key
pub record Image : Type 0 where
  pub header : Header
  pub rows : List Row
  pub records : List AuxRecord

-- what changed since the last point, and the header now
pub record Payload : Type 0 where
  pub header : Header
  pub removed : List ItemId
  pub rows : List Row
  pub removed_keys : List (List ℕ)
  pub records : List AuxRecord

abbrev pub spell_header : Header → List ℕ
spell_header h = usn_bytes h.last ++ in_bytes 8 h.count ++ in_bytes 8 h.next.0 ++ in_bytes 8 h.clock

abbrev pub spell_rows : List Row → List ℕ
spell_rows rs = in_bytes 4 (length rs) ++ flat_map spell_row rs

abbrev pub spell_key : List ℕ → List ℕ
spell_key key = length key ∷ key

abbrev pub spell_record : AuxRecord → List ℕ
spell_record r = spell_key r.key ++ in_bytes 2 (length r.value) ++ r.value

abbrev pub spell_records : List AuxRecord → List ℕ
spell_records rs = in_bytes 4 (length rs) ++ flat_map spell_record rs

abbrev pub spell_image : Image → List ℕ
spell_image i = 2 ∷ spell_header i.header ++ spell_rows i.rows ++ spell_records i.records

abbrev pub spell_id : ItemId → List ℕ
spell_id id = in_bytes 8 id.0

abbrev pub spell_payload : Payload → List ℕ
spell_payload p =
    spell_header p.header ++ in_bytes 4 (length p.removed) ++ flat_map spell_id p.removed ++ spell_rows p.rows
    ++ in_bytes 4 (length p.removed_keys) ++ flat_map spell_key p.removed_keys ++ spell_records p.records

-- removals come first; what is not there is not removed

abbrev pub is_removed : List ItemId → Row → Bool
is_removed ids r = list_any (λ id. id.0 == r.id.0) ids

abbrev pub without_row : ItemId → List Row → List Row
without_row id rows = filter (λ r. not (r.id.0 == id.0)) rows

abbrev pub with_row : Row → List Row → List Row
with_row row rows = put_in (λ x y. nat_lt x.id.0 y.id.0) row (without_row row.id rows)

abbrev pub with_rows : List Row → List Row → List Row
with_rows [] rows = rows
with_rows (r ∷ rs) rows = with_rows rs (with_row r rows)

abbrev pub is_key_removed : List (List ℕ) → AuxRecord → Bool
is_key_removed keys r = list_any (λ key. same key r.key) keys

abbrev pub without_record : List ℕ → List AuxRecord → List AuxRecord
without_record key records = filter (λ r. not (same r.key key)) records

abbrev pub with_record : AuxRecord → List AuxRecord → List AuxRecord
with_record r records = put_in (λ x y. comes_before x.key y.key) r (without_record r.key records)

abbrev pub with_records : List AuxRecord → List AuxRecord → List AuxRecord
with_records [] records = records
with_records (r ∷ rs) records = with_records rs (with_record r records)

-- the image after a payload
abbrev pub after_payload : Image → Payload → Image
after_payload i p = record {
  header = p.header;
  rows = with_rows p.rows (filter (λ r. not (is_removed p.removed r)) i.rows);
  records = with_records p.records (filter (λ r. not (is_key_removed p.removed_keys r)) i.records);
}

-- the state of a volume: its image after all its payloads
abbrev pub after_payloads : Image → List Payload → Image
after_payloads i [] = i
after_payloads i (p ∷ ps) = after_payloads (after_payload i p) ps
