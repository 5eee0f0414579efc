-- What a volume stands for.
use Rattle.std.specs.Prelude.{◌≡◌, ◌≢◌, ◌+◌, ◌⊎◌, ℕ, List, [], ◌∷◌, ◌++◌, length, drop, get_or}
use Rattle.cf_codec.specs.declared.formats.Format.{Format}
use Rattle.cf_codec.specs.declared.formats.Format.TheVariants.{Second}
use Rattle.cf_disk.specs.Disk.{State, part}
use Rattle.cf_journal.specs.declared.sides.Side.{Side}
use Rattle.cf_journal.specs.declared.sides.Side.TheVariants.{A, B}
use Rattle.cf_journal.specs.Format.{base, journal_at, journal_len, Chosen, Spells}

-- an image, the payloads of the records behind it, and the format that they are spelled in
pub record Content : Type 0 where
  pub format : Format
  pub image : List ℕ
  pub payloads : List (List ℕ)

abbrev pub appended : Content → List ℕ → Content
appended c payload = record { format = c.format; image = c.image; payloads = c.payloads ++ payload ∷ [] }

-- of format 2
abbrev pub second : List ℕ → List (List ℕ) → Content
second image payloads = record { format = Second; image = image; payloads = payloads }

-- what is written is of format 2
abbrev pub rewritten : List ℕ → Content
rewritten image = second image []

-- the disk stands for this content, by the slot of this side
pub record StandsAt (disk : List ℕ) (side : Side) (generation : ℕ) (c : Content) : Type 0 where
  pub chosen : Chosen c.format disk side generation (length c.image)
  pub image : c.image ≡ part (base side + 4096) (length c.image) disk
  pub payloads : Spells c.payloads (part (base side + journal_at c.format) (journal_len c.format) disk)

abbrev pub Stands : List ℕ → Content → Type 0
Stands disk c = (side : Side) × (generation : ℕ) × StandsAt disk side generation c

-- what lies behind the two halves, the clusters
abbrev pub clusters : List ℕ → List ℕ
clusters disk = drop 3145728 disk

-- Before: the content from before, and clusters that a crash might have left before. After: the other content,
-- and the clusters as they read.
abbrev pub IsBeforeOrAfter : State → Content → Content → List ℕ → Type 0
IsBeforeOrAfter old before after disk =
    (Stands disk before × ((d : List ℕ) × old.may_leave d × (clusters disk ≡ clusters d)))
    ⊎ (Stands disk after × (clusters disk ≡ clusters old.seen))

-- the same bytes but for those at two places
pub record SameButTwo (first second : ℕ) (old new : List ℕ) : Type 0 where
  pub size : length new ≡ length old
  pub bytes : (i : ℕ) → i ≢ first → i ≢ second → get_or new i 0 ≡ get_or old i 0

-- an image that a crash might have left, but for the bytes at two places
abbrev pub NearTwo : State → ℕ → ℕ → List ℕ → Type 0
NearTwo s first second disk = (d : List ℕ) × s.may_leave d × SameButTwo first second d disk

-- no content, or this one; and the clusters as they read
abbrev pub IsFresh : State → Content → List ℕ → Type 0
IsFresh old after disk = ((x : Content) → Stands disk x → x ≡ after) × (clusters disk ≡ clusters old.seen)

-- Within a formatting: what a crash might have left before it, but for the two gates; or no content or the new one.
abbrev pub IsFormatting : State → Content → List ℕ → Type 0
IsFormatting old after disk = NearTwo old (base A) (base B) disk ⊎ IsFresh old after disk
