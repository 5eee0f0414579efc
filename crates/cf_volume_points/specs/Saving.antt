-- A table put into the journal.
use Rattle.std.specs.Prelude.{◌≡◌, ◌⊎◌, ℕ, List}
use Rattle.cf_codec.specs.declared.formats.Format.TheVariants.{Second}
use Rattle.cf_disk.specs.Disk.{State}
use Rattle.cf_volume_image.specs.States.{IsContentsIn, Tells}
use Rattle.cf_journal.specs.Content.{Content, Stands, clusters}
use Rattle.cf_journal.specs.Settled.{Settled}
use Rattle.cf_journal.specs.declared.journals.Journal.{Journal}
use Rattle.cf_model.specs.Formats.{Image}

-- The journal's content tells this image, one of a volume of so many clusters. It is asked of a state of which a crash may
-- leave something alone, so that what no crash leaves needs no journal.
abbrev pub IsBacked : State → Journal → ℕ → Image → Type 0
IsBacked s j clusters i = (c : List ℕ) → s.may_leave c → (x : Content) × Settled j s x × IsContentsIn x.format x.image x.payloads clusters i

-- the journal's content is of format 2, and tells this image
abbrev pub Saved : Journal → State → Image → Type 0
Saved j s i = (y : Content) × Settled j s y × (y.format ≡ Second) × Tells y.image y.payloads i

-- the same where a crash may leave something
abbrev pub SavedIfLeft : Journal → State → Image → Type 0
SavedIfLeft j s i = (c : List ℕ) → s.may_leave c → Saved j s i

-- The content before, with clusters that a crash might have left before; or one of format 2 that tells the image, and the
-- clusters as they read.
abbrev pub IsSaving : State → Content → Image → List ℕ → Type 0
IsSaving old x i c =
    (Stands c x × ((d : List ℕ) × old.may_leave d × (clusters c ≡ clusters d)))
    ⊎ ((y : Content) × Stands c y × (y.format ≡ Second) × Tells y.image y.payloads i × (clusters c ≡ clusters old.seen))

-- the same, where the content before tells an image of a volume of so many clusters
abbrev pub IsSavingFrom : State → ℕ → Image → Image → List ℕ → Type 0
IsSavingFrom old clusters before after c = (x : Content) × IsContentsIn x.format x.image x.payloads clusters before × IsSaving old x after c
