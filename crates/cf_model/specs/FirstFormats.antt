-- Images and payloads of format 1. It knows no clock: an image of it has clock 0, keeps no file full and has no access.
use Rattle.std.specs.Prelude.{ℕ, List, length, All, ◌≡◌, ◌∷◌, ◌++◌}
use Rattle.std.specs.List.{flat_map}
use Rattle.cf_model.specs.Books.{usn_bytes}
use Rattle.cf_model.specs.FirstRows.{IsFirstRow, spell_row}
use Rattle.cf_model.specs.Formats.{Header, Image, Payload, spell_id, spell_key, spell_records}
use Rattle.cf_model.specs.Rows.{Row}
use Rattle.cf_model.specs.Words.{in_bytes}

-- what format 1 can say
abbrev pub IsFirstImage : Image → Type 0
IsFirstImage i = (i.header.clock ≡ 0) × All IsFirstRow i.rows

abbrev pub spell_header : Header → List ℕ
spell_header h = usn_bytes h.last ++ in_bytes 8 h.count ++ in_bytes 8 h.next.0

abbrev pub spell_rows : List Row → List ℕ
spell_rows rs = in_bytes 4 (length rs) ++ flat_map spell_row rs

abbrev pub spell_image : Image → List ℕ
spell_image i = 1 ∷ spell_header i.header ++ spell_rows i.rows ++ spell_records i.records

abbrev pub spell_payload : Payload → List ℕ
spell_payload p =
    spell_header p.header ++ in_bytes 4 (length p.removed) ++ flat_map spell_id p.removed ++ spell_rows p.rows
    ++ in_bytes 4 (length p.removed_keys) ++ flat_map spell_key p.removed_keys ++ spell_records p.records
