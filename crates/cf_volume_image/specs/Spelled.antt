-- Which images and payloads have a spelling.
use Rattle.std.specs.Prelude.{ℕ, true, List, [], length, Option, Some, None, ◌^◌, ◌<◌, ◌≡◌, ◌∷◌, ◌++◌}
use Rattle.std.specs.List.{flat_map}
use Rattle.cf_base.specs.declared.answers.AuxRecord.{AuxRecord}
use Rattle.cf_base.specs.declared.ids.ItemId.{ItemId}
use Rattle.cf_codec.specs.declared.formats.Format.{Format}
use Rattle.cf_codec.specs.declared.formats.Format.TheVariants.{First, Second}
use Rattle.cf_model.specs.Books.{usn_bytes}
use Rattle.cf_model.specs.FirstFormats as first
use Rattle.cf_model.specs.Formats.{Header, Image, Payload, spell_id, spell_image, spell_key, spell_payload}
use Rattle.cf_model.specs.Words.{comes_before, in_bytes}
use Rattle.cf_table.specs.Faults.{AreTable}
use Rattle.cf_table.specs.Reading.{AreTicks, IsAbove, IsUsn, ticks_bytes}

-- numbers that have room in their fields
abbrev pub IsHeaderIn : Format → Header → Type 0
IsHeaderIn f h = IsUsn h.last × (h.count < 2 ^ 64) × (h.next.0 < 2 ^ 64) × AreTicks f h.clock

abbrev pub spell_header_in : Format → Header → List ℕ
spell_header_in f h = usn_bytes h.last ++ in_bytes 8 h.count ++ in_bytes 8 h.next.0 ++ ticks_bytes f h.clock

-- it comes after the key before it, if there is one
abbrev pub IsAfter : Option (List ℕ) → List ℕ → Type 0
IsAfter None key = Unit {0}
IsAfter (Some before) key = comes_before before key ≡ true

abbrev pub IsKey : Option (List ℕ) → List ℕ → Type 0
IsKey before key = (length key < 2 ^ 8) × IsAfter before key

abbrev pub IsRecord : Option (List ℕ) → AuxRecord → Type 0
IsRecord before r = IsKey before r.key × (length r.value < 2 ^ 16)

-- records whose keys rise
abbrev pub AreRecordsFrom : Option (List ℕ) → List AuxRecord → Type 0
AreRecordsFrom before [] = Unit {0}
AreRecordsFrom before (r ∷ rs) = IsRecord before r × AreRecordsFrom (Some r.key) rs

abbrev pub AreRecords : List AuxRecord → Type 0
AreRecords rs = (length rs < 2 ^ 32) × AreRecordsFrom None rs

-- keys that rise
abbrev pub AreKeysFrom : Option (List ℕ) → List (List ℕ) → Type 0
AreKeysFrom before [] = Unit {0}
AreKeysFrom before (k ∷ ks) = IsKey before k × AreKeysFrom (Some k) ks

abbrev pub AreKeys : List (List ℕ) → Type 0
AreKeys ks = (length ks < 2 ^ 32) × AreKeysFrom None ks

abbrev pub IsId : Option ℕ → ItemId → Type 0
IsId before id = (id.0 < 2 ^ 64) × IsAbove before id.0

-- ids that rise
abbrev pub AreIdsFrom : Option ℕ → List ItemId → Type 0
AreIdsFrom before [] = Unit {0}
AreIdsFrom before (i ∷ is) = IsId before i × AreIdsFrom (Some i.0) is

abbrev pub AreIds : List ItemId → Type 0
AreIds is = (length is < 2 ^ 32) × AreIdsFrom None is

abbrev pub ids_bytes : List ItemId → List ℕ
ids_bytes is = in_bytes 4 (length is) ++ flat_map spell_id is

abbrev pub keys_bytes : List (List ℕ) → List ℕ
keys_bytes ks = in_bytes 4 (length ks) ++ flat_map spell_key ks

pub record IsImageIn (f : Format) (i : Image) : Type 0 where
  pub header : IsHeaderIn f i.header
  pub rows : AreTable f i.rows
  pub records : AreRecords i.records

pub record IsPayloadIn (f : Format) (p : Payload) : Type 0 where
  pub header : IsHeaderIn f p.header
  pub removed : AreIds p.removed
  pub rows : AreTable f p.rows
  pub removed_keys : AreKeys p.removed_keys
  pub records : AreRecords p.records

-- the first byte of an image
abbrev pub format_byte : Format → ℕ
format_byte First = 1
format_byte Second = 2

abbrev pub spell_image_in : Format → Image → List ℕ
spell_image_in First i = first.spell_image i
spell_image_in Second i = spell_image i

abbrev pub spell_payload_in : Format → Payload → List ℕ
spell_payload_in First p = first.spell_payload p
spell_payload_in Second p = spell_payload p

-- the texts of these payloads, each the one at its place
abbrev pub AreSpelledIn : Format → List (List ℕ) → List Payload → Type 0
AreSpelledIn f [] [] = Unit {0}
AreSpelledIn f [] (p ∷ ps) = ⊥
AreSpelledIn f (t ∷ ts) [] = ⊥
AreSpelledIn f (t ∷ ts) (p ∷ ps) = IsPayloadIn f p × (t ≡ spell_payload_in f p) × AreSpelledIn f ts ps

-- in format 2, which is written

abbrev pub IsHeader : Header → Type 0
IsHeader h = IsHeaderIn Second h

abbrev pub IsImage : Image → Type 0
IsImage i = IsImageIn Second i

abbrev pub IsPayload : Payload → Type 0
IsPayload p = IsPayloadIn Second p

abbrev pub AreSpelled : List (List ℕ) → List Payload → Type 0
AreSpelled ts ps = AreSpelledIn Second ts ps
