-- Auxiliary records in order of key, and how long their spelling is.
use Rattle.std.specs.Prelude.{ℕ, Bool, List, [], length, Option, Some, None, ◌+◌, ◌^◌, ◌<◌, ◌≡◌, ◌∷◌}
use Rattle.std.specs.List.{flat_map}
use Rattle.cf_base.specs.declared.answers.AuxRecord.{AuxRecord}
use Rattle.cf_volume_image.specs.Spelled.{AreRecordsFrom}
use Rattle.cf_model.specs.Formats.{spell_record}
use Rattle.cf_model.specs.Images.{aux_len}
use Rattle.cf_model.specs.Words.{comes_before}

-- a key of up to 255 bytes, and a value of up to 65,535
abbrev pub IsShort : AuxRecord → Type 0
IsShort r = (length r.key < 2 ^ 8) × (length r.value < 2 ^ 16)

-- how many bytes spell the records, after the four of their count
abbrev pub records_len : List AuxRecord → ℕ
records_len [] = 0
records_len (r ∷ rs) = aux_len r + records_len rs

-- records as they are kept, and how many bytes spell them
pub record AreKept (records : List AuxRecord) (n : ℕ) : Type 0 where
  pub rise : AreRecordsFrom None records
  pub len : n ≡ records_len records

abbrev pub stands_before : List ℕ → AuxRecord → Bool
stands_before key r = comes_before r.key key

abbrev pub comes_after : List ℕ → AuxRecord → Bool
comes_after key r = comes_before key r.key

-- as they are read

abbrev pub records_bytes : List AuxRecord → List ℕ
records_bytes rs = flat_map spell_record rs

-- the last key of the list, and the one before it where it is empty
abbrev pub last_of : Option (List ℕ) → List (List ℕ) → Option (List ℕ)
last_of before [] = before
last_of before (k ∷ ks) = last_of (Some k) ks

abbrev pub last_key_of : Option (List ℕ) → List AuxRecord → Option (List ℕ)
last_key_of before [] = before
last_key_of before (r ∷ rs) = last_key_of (Some r.key) rs
