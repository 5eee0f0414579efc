-- Why the bytes of a disk are those of no volume.
use Rattle.std.specs.Prelude.{ℕ, List, length, true, false, ◌≡◌, ◌⊎◌, ◌+◌}
use Rattle.cf_codec.specs.declared.formats.Format.{Format}
use Rattle.cf_volume_commit.specs.declared.damages.Damage.{Damage}
use Rattle.cf_volume_commit.specs.declared.damages.Damage.TheVariants as damage
use Rattle.cf_volume_commit.specs.declared.damages.FindError.{FindError}
use Rattle.cf_volume_commit.specs.declared.damages.FindError.TheVariants as find
use Rattle.cf_volume_commit.specs.Loaded.{IsNoVolume}
use Rattle.cf_volume_image.specs.Causes.{IsFirstFault, IsImageFault, IsUnsound}
use Rattle.cf_volume_image.specs.States.{IsContentsIn, TellsIn}
use Rattle.cf_disk.specs.Disk.{HasFailed, State}
use Rattle.cf_journal.specs.Content.{Content}
use Rattle.cf_journal.specs.Format.{Chosen}
use Rattle.cf_journal.specs.Places.{IsFound, image_place, record_place}
use Rattle.cf_journal.specs.declared.failures.JournalError.{JournalError}
use Rattle.cf_journal.specs.declared.failures.JournalError.TheVariants as failure
use Rattle.cf_journal.specs.declared.found.Found.{Found}
use Rattle.cf_journal.specs.declared.journals.Opened.{Opened}
use Rattle.cf_journal.specs.declared.sides.Side.{Side}
use Rattle.cf_model.specs.Formats.{Image}
use Rattle.cf_volume_points.specs.Standing.{clusters_on}

-- the first field of a record's payload that is not spelled begins here; the payload stands behind the four bytes of its length
abbrev pub IsPayloadDamage : Found → ℕ → Type 0
IsPayloadDamage f at = (number place : ℕ) × IsFirstFault f.format f.image f.payloads number place × (at ≡ record_place f number + 4 + place)

-- image and records are spelled up to one that does not fit the journal, whose length stands here
abbrev pub IsOverrunDamage : Found → ℕ → Type 0
IsOverrunDamage f at = (f.overruns ≡ true) × ((i : Image) × TellsIn f.format f.image f.payloads i) × (at ≡ record_place f (length f.payloads))

-- The first thing that is wrong with what was found on a disk of so many clusters.
abbrev pub IsFault : Found → ℕ → Damage → Type 0
IsFault f clusters damage.NoSlot = ⊥
IsFault f clusters (damage.Image at) = (place : ℕ) × IsImageFault f.format f.image place × (at ≡ image_place f + place)
IsFault f clusters (damage.Record at) = IsPayloadDamage f at ⊎ IsOverrunDamage f at
IsFault f clusters damage.Unsound = (f.overruns ≡ false) × IsUnsound f.format f.image f.payloads clusters

-- The first thing that is wrong with the bytes of a disk.
abbrev pub IsDamage : List ℕ → Damage → Type 0
IsDamage disk damage.NoSlot = (s : Side) (f : Format) (g l : ℕ) → Chosen f disk s g l → ⊥
IsDamage disk (damage.Image at) = (f : Found) × IsFound f disk × IsFault f (clusters_on disk) (damage.Image at)
IsDamage disk (damage.Record at) = (f : Found) × IsFound f disk × IsFault f (clusters_on disk) (damage.Record at)
IsDamage disk damage.Unsound = (f : Found) × IsFound f disk × IsFault f (clusters_on disk) damage.Unsound

-- why no volume is found
abbrev pub IsFindCause : State → State → FindError → Type 0
IsFindCause old new (find.Damaged d) = IsDamage old.seen d × IsNoVolume old.seen
IsFindCause old new find.Device = HasFailed old new
IsFindCause old new find.OutOfMemory = Unit {0}

-- a record does not fit the journal, or what was found tells no volume
abbrev pub TellsNone : Found → ℕ → Type 0
TellsNone f clusters = (f.overruns ≡ true) ⊎ ((i : Image) → IsContentsIn f.format f.image f.payloads clusters i → ⊥)

-- why what was found tells no volume
abbrev pub IsFoundCause : Found → ℕ → FindError → Type 0
IsFoundCause f clusters (find.Damaged d) = IsFault f clusters d × TellsNone f clusters
IsFoundCause f clusters find.Device = ⊥
IsFoundCause f clusters find.OutOfMemory = Unit {0}

-- what the journal was opened with
abbrev pub content_of : Opened → Content
content_of o = record { format = o.format; image = o.image; payloads = o.payloads }

abbrev pub find_error : JournalError → FindError
find_error failure.Failed = find.Device
find_error failure.NotAVolume = find.Damaged damage.NoSlot
find_error failure.Broken = find.Device
find_error failure.OutOfMemory = find.OutOfMemory
