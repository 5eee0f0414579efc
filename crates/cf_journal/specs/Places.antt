-- What is spelled on a disk, whether it is a content or not.
use Rattle.std.specs.Prelude.{◌≡◌, ◌+◌, ◌<◌, ℕ, List, take, true, false, length}
use Rattle.cf_disk.specs.Disk.{part}
use Rattle.cf_journal.specs.Format.{base, journal_at, journal_len, Chosen, Overruns, Spells, size_of_records}
use Rattle.cf_journal.specs.declared.found.Found.{Found}
use Rattle.cf_journal.specs.declared.journals.Opened.{Opened}

-- where the image begins in the disk
abbrev pub image_place : Found → ℕ
image_place f = base f.side + 4096

-- where the length of the record of this number stands, counted from 0, behind the record's gate
abbrev pub record_place : Found → ℕ → ℕ
record_place f number = base f.side + journal_at f.format + size_of_records (take number f.payloads) + 1

-- the bytes of the journal of the slot that is the volume
abbrev pub journal_of : Found → List ℕ → List ℕ
journal_of f disk = part (base f.side + journal_at f.format) (journal_len f.format) disk

-- The slot is the volume of the disk, the image stands in it, and the payloads are those of the records at the front of its
-- journal: of all, or of those before one that does not fit.
pub record IsFound (f : Found) (disk : List ℕ) : Type 0 where
  pub chosen : Chosen f.format disk f.side f.generation (length f.image)
  pub image : f.image ≡ part (base f.side + 4096) (length f.image) disk
  pub whole : f.overruns ≡ false → Spells f.payloads (journal_of f disk)
  pub torn : f.overruns ≡ true → Overruns f.payloads (journal_of f disk)
  pub end : f.end ≡ size_of_records f.payloads
  pub short : size_of_records f.payloads < journal_len f.format

-- What was found, with its journal as it is opened.
pub record IsOpened (f : Found) (o : Opened) : Type 0 where
  pub side : o.journal.side ≡ f.side
  pub generation : o.journal.generation ≡ f.generation
  pub journal_format : o.journal.format ≡ f.format
  pub end : o.journal.end ≡ f.end
  pub usable : o.journal.broken ≡ false
  pub format : o.format ≡ f.format
  pub image : o.image ≡ f.image
  pub payloads : o.payloads ≡ f.payloads
