-- Where a text stops being that of a row: the first field that lacks bytes, or that spells what may not stand there.
-- Of each part of a row a relation tells with which fault the reading of what is left ends in it. Where memory ran out it
-- says nothing.
use Rattle.std.specs.Prelude.{ℕ, zero, suc, Bool, true, false, List, [], length, Option, Some, None, ◌+◌, ◌^◌, ◌≤◌, ◌<◌, ◌≡◌, ◌⊎◌, ◌∷◌}
use Rattle.cf_codec.specs.Left.{Left, Takes}
use Rattle.cf_codec.specs.declared.failures.CodecError.{CodecError}
use Rattle.cf_codec.specs.declared.failures.CodecError.TheVariants as codec
use Rattle.cf_codec.specs.declared.formats.Format.{Format}
use Rattle.cf_codec.specs.declared.formats.Format.TheVariants.{First, Second}
use Rattle.cf_model.specs.Books.{usn_bytes}
use Rattle.cf_model.specs.Rows.{pin_byte, spell_extent, spell_run, spell_runs}
use Rattle.cf_model.specs.Rows as model
use Rattle.cf_model.specs.Words.{in_bytes}
use Rattle.cf_table.specs.Reading.{AreRowsIn, IsAbove, IsBasics, IsExtent, IsHead, IsIdentity, IsName, IsRowIn, IsRun, IsSet, IsStored, IsUsn, IsWho, basics_bytes, flags_limit, flags_number, head_bytes, identity_bytes, name_bytes, who_bytes}
use Rattle.cf_table.specs.Spelling.{spell_row_in, spell_rows_in}
use Rattle.cf_table.specs.declared.heads.Flags.{Flags}
use Rattle.cf_table.specs.declared.failures.RowError.{RowError}
use Rattle.cf_table.specs.declared.failures.RowError.TheVariants.{BadField, OutOfMemory, Short}

-- the fault of a field as one of a row
abbrev pub of_codec : CodecError → RowError
of_codec (codec.Short place) = Short place
of_codec (codec.BadField place) = BadField place

-- a fault that tells of the text
abbrev pub IsTold : RowError → Type 0
IsTold (Short place) = Unit {0}
IsTold (BadField place) = Unit {0}
IsTold OutOfMemory = ⊥

-- where nothing is read
abbrev pub NoFault : RowError → Type 0
NoFault (Short place) = ⊥
NoFault (BadField place) = ⊥
NoFault OutOfMemory = Unit {0}

-- a text of n bytes lacks some
abbrev pub AtBytes : ℕ → Left → RowError → Type 0
AtBytes n left (Short place) = (place ≡ left.place) × (length left.rest < n)
AtBytes n left (BadField place) = ⊥
AtBytes n left OutOfMemory = Unit {0}

-- a number of n bytes lacks some, or is not one that may stand there
abbrev pub AtNumber : ℕ → (ℕ → Type 0) → Left → RowError → Type 0
AtNumber n Allowed left (Short place) = (place ≡ left.place) × (length left.rest < n)
AtNumber n Allowed left (BadField place) = (place ≡ left.place) × (v : ℕ) × (mid : Left) × (v < 256 ^ n) × Takes (in_bytes n v) left mid × (Allowed v → ⊥)
AtNumber n Allowed left OutOfMemory = Unit {0}

-- the fault is behind a part, which is spelled
pub record Behind {X : Type 0} (Is : X → Type 0) (spell : X → List ℕ) (Next : X → Left → RowError → Type 0) (left : Left) (e : RowError) : Type 0 where
  pub part : X
  pub is_part : Is part
  pub mid : Left
  pub takes : Takes (spell part) left mid
  pub fault : Next part mid e

-- the fault is in the first part, or behind it
abbrev pub Then : {X : Type 0} → (Left → RowError → Type 0) → (X → Type 0) → (X → List ℕ) → (X → Left → RowError → Type 0) → Left → RowError → Type 0
Then At Is spell Next left e = At left e ⊎ Behind Is spell Next left e

abbrev pub IsNumber : ℕ → (ℕ → Type 0) → ℕ → Type 0
IsNumber n Allowed v = (v < 256 ^ n) × Allowed v

-- the same where the first part is a number
abbrev pub ThenOf : ℕ → (ℕ → Type 0) → (ℕ → Left → RowError → Type 0) → Left → RowError → Type 0
ThenOf n Allowed Next = Then (AtNumber n Allowed) (IsNumber n Allowed) (in_bytes n) Next

-- heads

abbrev pub Any : ℕ → Type 0
Any v = Unit {0}

abbrev pub AtWho : Option ℕ → Left → RowError → Type 0
AtWho before = ThenOf 8 (IsAbove before) (λ id. AtNumber 8 Any)

abbrev pub AreFlags : Format → Flags → Type 0
AreFlags f flags = flags_number flags < flags_limit f

abbrev pub AtFlags : Format → Left → RowError → Type 0
AtFlags f = AtNumber 2 (λ v. v < flags_limit f)

abbrev pub AtPin : Left → RowError → Type 0
AtPin = AtNumber 1 (λ v. v < 4)

-- 0 where there is no base
abbrev pub IsBaseField : Bool → ℕ → Type 0
IsBaseField true v = Unit {0}
IsBaseField false v = v ≡ 0

abbrev pub AtLengths : Bool → Left → RowError → Type 0
AtLengths has_base = ThenOf 4 Any (λ size. AtNumber 4 (IsBaseField has_base))

abbrev pub AtBasics : Format → Left → RowError → Type 0
AtBasics f =
    Then (AtFlags f) (AreFlags f) (λ flags. in_bytes 2 (flags_number flags))
    (λ flags. Then AtPin IsStored (λ p. pin_byte p ∷ []) (λ p. AtLengths flags.has_base))

-- a number of a change in two fields, epoch and place
abbrev pub AtUsn : Left → RowError → Type 0
AtUsn = ThenOf 4 Any (λ epoch. AtNumber 4 Any)

abbrev pub AtTicks : Format → Left → RowError → Type 0
AtTicks First left e = NoFault e
AtTicks Second left e = AtNumber 8 Any left e

-- a number of a change is one field here
abbrev pub AtNumbers : Format → Left → RowError → Type 0
AtNumbers f = Then (AtNumber 8 Any) IsUsn usn_bytes (λ number. Then (AtNumber 8 Any) IsUsn usn_bytes (λ anchor. AtTicks f))

abbrev pub AtHead : Format → Option ℕ → Left → RowError → Type 0
AtHead f before = Then (AtWho before) (IsWho before) who_bytes (λ w. Then (AtBasics f) (IsBasics f) basics_bytes (λ b. AtNumbers f))

-- texts

abbrev pub AtName : Left → RowError → Type 0
AtName = Then (AtBytes 1) (λ n. n < 2 ^ 8) (λ n. n ∷ []) (λ n. AtBytes n)

abbrev pub AtIdentity : Left → RowError → Type 0
AtIdentity = ThenOf 2 Any (λ n. AtBytes n)

-- sets

abbrev pub IsLen : ℕ → ℕ → Type 0
IsLen start len = (0 < len) × (start + len < 2 ^ 32)

abbrev pub AtRun : ℕ → Left → RowError → Type 0
AtRun low = ThenOf 4 (λ v. low ≤ v) (λ start. AtNumber 4 (IsLen start))

-- in one of n runs
abbrev pub AtRuns : ℕ → ℕ → Left → RowError → Type 0
AtRuns low zero left e = NoFault e
AtRuns low (suc n) left e = Then (AtRun low) (IsRun low) spell_run (λ s. AtRuns (s.start + s.len + 1) n) left e

abbrev pub AtSet : Left → RowError → Type 0
AtSet = ThenOf 4 Any (λ n. AtRuns 0 n)

abbrev pub AtExtent : ℕ → Left → RowError → Type 0
AtExtent low = ThenOf 4 (λ v. low ≤ v) (λ block. AtNumber 4 Any)

-- in one of n extents
abbrev pub AtExtents : ℕ → ℕ → Left → RowError → Type 0
AtExtents low zero left e = NoFault e
AtExtents low (suc n) left e = Then (AtExtent low) (IsExtent low) spell_extent (λ x. AtExtents (x.block + 1) n) left e

abbrev pub AtMap : Left → RowError → Type 0
AtMap = ThenOf 4 Any (λ n. AtExtents 0 n)

abbrev pub AtSets : Left → RowError → Type 0
AtSets =
    Then AtSet IsSet spell_runs
    (λ here. Then AtSet IsSet spell_runs
    (λ valid. Then AtSet IsSet spell_runs
    (λ modified. Then AtSet IsSet spell_runs
    (λ since. AtMap))))

-- rows

-- a row whose id is to be above this one, if there is one
abbrev pub AtRow : Format → Option ℕ → Left → RowError → Type 0
AtRow f before =
    Then (AtHead f before) (IsHead f before) (head_bytes f)
    (λ h. Then AtName IsName name_bytes
    (λ name. Then AtIdentity IsIdentity identity_bytes
    (λ identity. AtSets)))

-- in one of n rows
abbrev pub AtRows : Format → Option ℕ → ℕ → Left → RowError → Type 0
AtRows f before zero left e = NoFault e
AtRows f before (suc n) left e = Then (AtRow f before) (IsRowIn f before) (spell_row_in f) (λ r. AtRows f (Some r.id.0) n) left e

abbrev pub AtTable : Format → Left → RowError → Type 0
AtTable f = ThenOf 4 Any (λ n. AtRows f None n)

-- bytes where there should be none
abbrev pub AtEnd : Left → RowError → Type 0
AtEnd left (Short place) = ⊥
AtEnd left (BadField place) = (place ≡ left.place) × (0 < length left.rest)
AtEnd left OutOfMemory = Unit {0}

abbrev pub AreTable : Format → List model.Row → Type 0
AreTable f rs = (length rs < 2 ^ 32) × AreRowsIn f None rs

-- in a text of rows and no more
abbrev pub AtWhole : Format → Left → RowError → Type 0
AtWhole f = Then (AtTable f) (AreTable f) (spell_rows_in f) (λ rs. AtEnd)
