-- How long an image is.
use Rattle.std.proofs.Common.{◌≡◌, ℕ, ◌+◌, ◌/◌, ◌%◌, List, [], ◌∷◌, ◌++◌, length, refl, arith, length-append}
use Rattle.std.specs.Prelude.{map, min}
use Rattle.std.specs.List.{flat_map}
use Rattle.cf_base.specs.declared.answers.AuxRecord.{AuxRecord}
use Rattle.cf_model.specs.Formats.{spell_header, spell_image, spell_record, spell_records, spell_rows}
use Rattle.cf_model.specs.Images.{aux_len}
use Rattle.cf_table.proofs.Lengths.{spelled_length}
use Rattle.cf_table.specs.Spelling.{row_value}
use Rattle.cf_table.specs.Tables.{rows_len}
use Rattle.cf_volume_image.specs.Contents.{header_of, image_of}
use Rattle.cf_volume_image.specs.RecordLists.{records_len}
use Rattle.cf_volume_image.specs.declared.contents.Contents.{Contents}

record_length : (r : AuxRecord) → length (spell_record r) ≡ aux_len r
record_length r = generic r.key r.value where
  generic : (k v : List ℕ) → length ((length k ∷ k) ++ (length v / 256 % 256 ∷ length v / 1 % 256 ∷ []) ++ v) ≡ 3 + length k + length v
  generic k v = omega (arith, length-append ((length k ∷ k) ++ (length v / 256 % 256 ∷ length v / 1 % 256 ∷ [])) v, length-append (length k ∷ k) (length v / 256 % 256 ∷ length v / 1 % 256 ∷ []))

each_length : (rs : List AuxRecord) → length (flat_map spell_record rs) ≡ records_len rs
each_length [] = refl
each_length (r ∷ rs) = omega (arith, length-append (spell_record r) (flat_map spell_record rs), record_length r, each_length rs)

records_length : (rs : List AuxRecord) → length (spell_records rs) ≡ 4 + records_len rs
records_length rs = omega (arith, each_length rs)

three : (a b c : List ℕ) (m n : ℕ) → length a ≡ 33 → length b ≡ 4 + m → length c ≡ 4 + n → length (a ++ b ++ c) ≡ 41 + m + n
three a b c m n h k l = omega (arith, length-append (a ++ b) c, length-append a b, h, k, l)

pub image_length : (c : Contents) → length (spell_image (image_of c)) ≡ 41 + rows_len c.rows.rows + records_len c.records
image_length c =
    three (2 ∷ spell_header (header_of c)) (spell_rows (map row_value c.rows.rows)) (spell_records c.records) (rows_len c.rows.rows) (records_len c.records) refl (spelled_length c.rows.rows) (records_length c.records)

pub capped : (n r s : ℕ) → n ≡ 41 + r + s → min (min (41 + min r 18446744073709551615) 18446744073709551615 + min s 18446744073709551615) 18446744073709551615 ≡ min n 18446744073709551615
capped n r s h = omega (arith, h)
