-- What a migration does with the bytes of a device.
use Rattle.std.specs.Prelude.{◌≡◌, ◌≢◌, ◌⊎◌, ◌<◌, ◌+◌, ℕ, List, [], length, Option}
use Rattle.cf_base.specs.declared.changes.Change.{Change}
use Rattle.cf_base.specs.declared.ids.Usn.{Usn}
use Rattle.cf_base.specs.declared.statuses.Status.{Status}
use Rattle.cf_base.specs.declared.statuses.Status.TheVariants as status
use Rattle.cf_disk.specs.Disk.{HasFailed, State as Disk, size_of}
use Rattle.cf_io.specs.Moves.{Adds, AddsFront}
use Rattle.cf_journal.specs.Content.{clusters}
use Rattle.cf_model.specs.Books.{Book}
use Rattle.cf_model.specs.Formats.{Image}
use Rattle.cf_model.specs.Numbers.{most}
use Rattle.cf_volume_commit.specs.Loaded.{HoldsImage, HoldsSecond, IsNoVolume, raised_image}
use Rattle.cf_volume_points.specs.Standing.{Standing}
use Rattle.cf_world_devices.specs.Sizes.{IsFit}

-- These bytes hold in format 2 what those of before hold in either: the same image but for its epoch, which is the next one, and
-- the same bytes of clusters. So they stand for each log and book for which the others stand.
pub record IsMigrated (before now : List ℕ) : Type 0 where
  pub image : Image
  pub held : HoldsImage before image
  pub below : image.header.last.epoch < most
  pub holds : HoldsSecond now (raised_image image.header.last.epoch image)
  pub clusters_are : clusters now ≡ clusters before
  pub stands : (epoch : ℕ) (log : List (Usn × Change)) (b : Book) → Standing epoch before log b → Standing (epoch + 1) now log b

-- The bytes are those of no volume, or of one in its last epoch.
abbrev pub IsRefused : List ℕ → Type 0
IsRefused bytes = IsNoVolume bytes ⊎ ((i : Image) × HoldsImage bytes i × (i.header.last.epoch ≡ most))

-- why the bytes of a disk were not migrated
abbrev pub IsUnopened : Disk → Disk → Status → Type 0
IsUnopened old now status.BadImage = IsRefused old.seen
IsUnopened old now status.DeviceFault = HasFailed old now
IsUnopened old now status.OutOfMemory = Unit {0}
IsUnopened old now _ = ⊥

abbrev pub IsUnopenedEnd : Status → Type 0
IsUnopenedEnd status.BadImage = Unit {0}
IsUnopenedEnd status.DeviceFault = Unit {0}
IsUnopenedEnd status.OutOfMemory = Unit {0}
IsUnopenedEnd _ = ⊥

-- how it ends where the source was not read, or had too many bytes
abbrev pub IsUnread : Status → Type 0
IsUnread status.SourceFault = Unit {0}
IsUnread status.BadDevice = Unit {0}
IsUnread status.BadImage = Unit {0}
IsUnread status.OutOfMemory = Unit {0}
IsUnread _ = ⊥

-- the bytes of a disk, or a front of them, were written
abbrev pub HandsOut : Disk → Disk → Option (List ℕ) → Option (List ℕ) → Status → Type 0
HandsOut old now held after status.Done = (now.seen ≡ old.seen) × Adds held after now.seen
HandsOut old now held after status.SinkFault = (now.seen ≡ old.seen) × AddsFront held after now.seen
HandsOut old now held after status.DeviceFault = HasFailed old now × Adds held after []
HandsOut old now held after _ = ⊥

-- What a migration leaves of a disk and a sink, by its status. The bytes are those of the source.
abbrev pub Migrates : Disk → Disk → List ℕ → Option (List ℕ) → Option (List ℕ) → Status → Type 0
Migrates old now bytes held after status.Done = IsMigrated bytes now.seen × Adds held after now.seen
Migrates old now bytes held after status.SinkFault = IsMigrated bytes now.seen × AddsFront held after now.seen
Migrates old now bytes held after status.BadImage = ((length bytes ≢ size_of old) ⊎ IsRefused bytes) × Adds held after []
Migrates old now bytes held after status.DeviceFault = (length bytes ≡ size_of old) × Adds held after []
Migrates old now bytes held after status.BadDevice = Adds held after []
Migrates old now bytes held after status.SourceFault = Adds held after []
Migrates old now bytes held after status.OutOfMemory = Adds held after []
Migrates old now bytes held after _ = ⊥

-- how it ends on a fit device where neither source nor sink failed
abbrev pub IsEnd : Status → Type 0
IsEnd status.Done = Unit {0}
IsEnd status.BadImage = Unit {0}
IsEnd status.DeviceFault = Unit {0}
IsEnd status.OutOfMemory = Unit {0}
IsEnd _ = ⊥

-- how it ends on a device that is not fit
abbrev pub IsUnfitEnd : Status → Type 0
IsUnfitEnd status.BadDevice = Unit {0}
IsUnfitEnd status.SourceFault = Unit {0}
IsUnfitEnd status.OutOfMemory = Unit {0}
IsUnfitEnd _ = ⊥

-- All that holds of the bytes of a device, by how their migration ended. It was quiet where neither source nor sink failed.
pub record OfDevice (old now : Disk) (bytes : List ℕ) (held after : Option (List ℕ)) (Quiet : Type 0) (end : Status) : Type 0 where
  pub writes : Migrates old now bytes held after end
  pub fit : end ≡ status.BadDevice → IsFit (size_of old) → ⊥
  pub unfit : (IsFit (size_of old) → ⊥) → IsUnfitEnd end
  pub complete : Quiet → IsFit (size_of old) → IsEnd end
