-- A journal and its disk.
use Rattle.std.specs.Prelude.{◌≡◌, ◌≤◌, ◌+◌, ℕ, List, [], length, take, true, false, if◌then◌else◌, ◌==◌}
use Rattle.cf_codec.specs.declared.formats.Format.TheVariants.{Second}
use Rattle.cf_disk.specs.Disk.{State, HasFailed, size_of, part, SameBut}
use Rattle.cf_journal.specs.declared.sides.Side.{Side}
use Rattle.cf_journal.specs.declared.failures.JournalError.{JournalError}
use Rattle.cf_journal.specs.declared.failures.JournalError.TheVariants.{Failed, NotAVolume, Broken, OutOfMemory}
use Rattle.cf_journal.specs.declared.journals.Journal.{Journal}
use Rattle.cf_journal.specs.Format.{base, HasSlot, Spells, size_of_records}
use Rattle.cf_journal.specs.Content.{Content, StandsAt}

-- a size, in bytes, that holds a volume of at most 65,536 clusters
abbrev pub IsFitSize : ℕ → Type 0
IsFitSize n = (3145728 ≤ n) × (n ≤ 271581184)

-- The disk stands for this content, and nothing of its two halves is pending.
pub record Ready (s : State) (side : Side) (generation : ℕ) (c : Content) : Type 0 where
  pub stands : StandsAt s.seen side generation c
  pub durable : (disk : List ℕ) → s.may_leave disk → take 3145728 disk ≡ take 3145728 s.seen
  pub size : IsFitSize (size_of s)

-- The journal is that of the disk, and has not failed.
pub record Settled (j : Journal) (s : State) (c : Content) : Type 0 where
  pub usable : j.broken ≡ false
  pub ready : Ready s j.side j.generation c
  pub format : j.format ≡ c.format
  pub end : j.end ≡ size_of_records c.payloads

-- a record of n bytes has room; none in a journal of format 1
abbrev pub HasRoom : Journal → ℕ → Type 0
HasRoom j n = (j.format ≡ Second) × (j.end + (6 + n) ≤ 262144)

-- why a call other than open failed
abbrev pub IsCause : JournalError → Journal → State → State → Type 0
IsCause Failed j old new = (j.broken ≡ false) × HasFailed old new
IsCause Broken j old new = j.broken ≡ true
IsCause NotAVolume j old new = ⊥
IsCause OutOfMemory j old new = ⊥

-- the slot of this side holds the image, without a record, and nothing outside of this half is changed
pub record Installs (side : Side) (generation : ℕ) (image old new : List ℕ) : Type 0 where
  pub slot : HasSlot Second new (base side) generation (length image)
  pub image_is : part (base side + 4096) (length image) new ≡ image
  pub payloads : Spells [] (part (base side + 1310720) 262144 new)
  pub same : SameBut (base side) 1572864 old new

-- the generation after one
abbrev pub next_of : ℕ → ℕ
next_of g = if g == 18446744073709551615 then 1 else g + 1

-- why open failed
abbrev pub IsOpenCause : JournalError → State → State → Type 0
IsOpenCause Failed old new = HasFailed old new
IsOpenCause Broken old new = ⊥
IsOpenCause NotAVolume old new = ⊥
IsOpenCause OutOfMemory old new = Unit {0}
