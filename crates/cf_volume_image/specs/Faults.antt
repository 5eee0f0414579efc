-- Where a text stops being that of an image or of a payload.
use Rattle.std.specs.Prelude.{ℕ, zero, suc, List, [], length, Option, Some, None, ◌+◌, ◌^◌, ◌<◌, ◌≡◌, ◌⊎◌, ◌∷◌}
use Rattle.cf_codec.specs.Left.{Left, Takes}
use Rattle.cf_model.specs.Books.{usn_bytes}
use Rattle.cf_codec.specs.declared.formats.Format.{Format}
use Rattle.cf_model.specs.Formats.{spell_id, spell_key, spell_record, spell_records}
use Rattle.cf_table.specs.Faults.{Any, AreTable, AtEnd, AtIdentity, AtName, AtNumber, AtTable, AtTicks, AtUsn, NoFault, Then, ThenOf}
use Rattle.cf_table.specs.Reading.{IsAbove, IsUsn}
use Rattle.cf_table.specs.Spelling.{spell_rows_in}
use Rattle.cf_table.specs.declared.failures.RowError.{RowError}
use Rattle.cf_table.specs.declared.failures.RowError.TheVariants.{BadField}
use Rattle.cf_volume_image.specs.Spelled.{AreIds, AreKeys, AreRecords, IsAfter, IsHeaderIn, IsId, IsKey, IsRecord, format_byte, ids_bytes, keys_bytes, spell_header_in}

abbrev pub AtHeader : Format → Left → RowError → Type 0
AtHeader f = Then AtUsn IsUsn usn_bytes (λ last. ThenOf 8 Any (λ count. ThenOf 8 Any (λ next. AtTicks f)))

-- a key that does not come after the one before it: the fault is behind the byte of its length
pub record IsLate (before : Option (List ℕ)) (left : Left) (e : RowError) : Type 0 where
  pub key : List ℕ
  pub mid : Left
  pub fail_is : e ≡ BadField (left.place + 1)
  pub has_room : length key < 2 ^ 8
  pub takes : Takes (spell_key key) left mid
  pub late : IsAfter before key → ⊥

abbrev pub AtKey : Option (List ℕ) → Left → RowError → Type 0
AtKey before left e = AtName left e ⊎ IsLate before left e

abbrev pub AtRecord : Option (List ℕ) → Left → RowError → Type 0
AtRecord before = Then (AtKey before) (IsKey before) spell_key (λ key. AtIdentity)

-- in one of n
abbrev pub AtRecordsFrom : Option (List ℕ) → ℕ → Left → RowError → Type 0
AtRecordsFrom before zero left e = NoFault e
AtRecordsFrom before (suc n) left e = Then (AtRecord before) (IsRecord before) spell_record (λ r. AtRecordsFrom (Some r.key) n) left e

abbrev pub AtRecords : Left → RowError → Type 0
AtRecords = ThenOf 4 Any (λ n. AtRecordsFrom None n)

abbrev pub AtKeysFrom : Option (List ℕ) → ℕ → Left → RowError → Type 0
AtKeysFrom before zero left e = NoFault e
AtKeysFrom before (suc n) left e = Then (AtKey before) (IsKey before) spell_key (λ key. AtKeysFrom (Some key) n) left e

abbrev pub AtKeys : Left → RowError → Type 0
AtKeys = ThenOf 4 Any (λ n. AtKeysFrom None n)

abbrev pub AtId : Option ℕ → Left → RowError → Type 0
AtId before = AtNumber 8 (IsAbove before)

abbrev pub AtIdsFrom : Option ℕ → ℕ → Left → RowError → Type 0
AtIdsFrom before zero left e = NoFault e
AtIdsFrom before (suc n) left e = Then (AtId before) (IsId before) spell_id (λ id. AtIdsFrom (Some id.0) n) left e

abbrev pub AtIds : Left → RowError → Type 0
AtIds = ThenOf 4 Any (λ n. AtIdsFrom None n)

-- the format's number
abbrev pub AtFormat : Format → Left → RowError → Type 0
AtFormat f = AtNumber 1 (λ v. v ≡ format_byte f)

abbrev pub AtImage : Format → Left → RowError → Type 0
AtImage f =
    Then (AtFormat f) (λ (byte : ℕ). byte ≡ format_byte f) (λ byte. byte ∷ [])
    (λ byte. Then (AtHeader f) (IsHeaderIn f) (spell_header_in f)
    (λ h. Then (AtTable f) (AreTable f) (spell_rows_in f)
    (λ rows. Then AtRecords AreRecords spell_records
    (λ records. AtEnd))))

abbrev pub AtPayload : Format → Left → RowError → Type 0
AtPayload f =
    Then (AtHeader f) (IsHeaderIn f) (spell_header_in f)
    (λ h. Then AtIds AreIds ids_bytes
    (λ ids. Then (AtTable f) (AreTable f) (spell_rows_in f)
    (λ rows. Then AtKeys AreKeys keys_bytes
    (λ keys. Then AtRecords AreRecords spell_records
    (λ records. AtEnd)))))
