-- What is known of a volume that was just made or opened.
use Rattle.std.specs.Prelude.{ℕ, false, List, [], ◌∷◌, length, map, cond, All, ◌≡◌, ◌⊎◌, ◌+◌, ◌<◌}
use Rattle.cf_base.specs.declared.changes.Change.{Change}
use Rattle.cf_base.specs.declared.codes.Code.TheVariants as code
use Rattle.cf_base.specs.declared.codes.CallError.{CallError}
use Rattle.cf_base.specs.declared.codes.CallError.TheVariants as fail
use Rattle.cf_base.specs.declared.ids.Usn.{Usn}
use Rattle.cf_volume_commit.specs.Leading.{HaveStoredPins, is_full}
use Rattle.cf_volume_commit.specs.declared.damages.FindError.{FindError}
use Rattle.cf_volume_commit.specs.declared.damages.FindError.TheVariants as find
use Rattle.cf_volume_commit.specs.declared.parts.Parts.{Parts}
use Rattle.cf_clusters.specs.Roles.{Opens, how_many, is_now}
use Rattle.cf_codec.specs.declared.formats.Format.TheVariants.{Second}
use Rattle.cf_disk.specs.Disk.{Only, State}
use Rattle.cf_volume_image.specs.Contents.{image_of}
use Rattle.cf_volume_image.specs.States.{IsContentsIn, TellsIn}
use Rattle.cf_journal.specs.Content.{Content}
use Rattle.cf_journal.specs.Content as journal
use Rattle.cf_journal.specs.Format.{size_of_records}
use Rattle.cf_journal.specs.Settled.{Settled}
use Rattle.cf_model.specs.Books.{Book, no_book}
use Rattle.cf_model.specs.Formats.{Header, Image, spell_image}
use Rattle.cf_model.specs.Items.{root}
use Rattle.cf_model.specs.Numbers.{most}
use Rattle.cf_model.specs.Rows.{row_of}
use Rattle.cf_model.specs.Standing.{clusters_of}
use Rattle.cf_volume_points.specs.Known.{Known}
use Rattle.cf_volume_points.specs.Standing.{Standing, clusters_for, clusters_on}
use Rattle.cf_table.specs.Spelling.{HasRoom, row_value}

-- nothing has changed since its last point
abbrev pub known_of : Parts → Known
known_of p = record {
  journal = p.journal;
  uses = p.held;
  table = p.contents.rows;
  records = p.contents.records;
  epoch = p.contents.last.epoch;
  place = p.contents.last.place;
  count = p.contents.count;
  clock = p.contents.clock;
  rows_then = [];
  next_then = p.contents.rows.next;
  records_then = [];
  keys_made = [];
  kept = p.contents.count;
  clock_then = p.contents.clock;
  limit = p.limit;
  used_then = how_many is_now p.held;
  put_since = 0;
  broken = false;
}

-- the last number before the first one of the next epoch
abbrev pub number_after : ℕ → Usn
number_after epoch = record { epoch = epoch + 1; place = 0 }

-- The disk reports the contents, but for the header.
pub record StandsThen (p : Parts) (s : State) (x : Content) (i : Image) : Type 0 where
  pub settled : Settled p.journal s x
  pub told : TellsIn x.format x.image x.payloads i
  pub rows : i.rows ≡ map row_value p.contents.rows.rows
  pub records : i.records ≡ p.contents.records
  pub pins : HaveStoredPins p.contents.rows.rows

-- an opening's answer
abbrev pub fail_of : FindError → CallError
fail_of (find.Damaged d) = fail.No code.NotAVolume
fail_of find.Device = fail.No code.Device
fail_of find.OutOfMemory = fail.OutOfMemory

-- the epoch raised

abbrev pub raised_header : ℕ → Header → Header
raised_header epoch h = record h { last = number_after epoch }

abbrev pub raised_image : ℕ → Image → Image
raised_image epoch i = record i { header = raised_header epoch i.header }

-- the disk holds a content that tells this image of a volume, in the content's format
pub record HoldsImage (disk : List ℕ) (i : Image) : Type 0 where
  pub content : Content
  pub holds : journal.Stands disk content
  pub told : IsContentsIn content.format content.image content.payloads (clusters_on disk) i

-- the same, and the content is of format 2
pub record HoldsSecond (disk : List ℕ) (i : Image) : Type 0 where
  pub content : Content
  pub second : content.format ≡ Second
  pub holds : journal.Stands disk content
  pub told : IsContentsIn content.format content.image content.payloads (clusters_on disk) i

-- The bytes of a disk are those of no volume. It is the one cause of NotAVolume.
abbrev pub IsNoVolume : List ℕ → Type 0
IsNoVolume disk = (i : Image) → HoldsImage disk i → ⊥

-- The parts tell the one content that the disk stands for, with the epoch raised that is not yet written.
pub record Finds (old mid : State) (x : Content) (p : Parts) : Type 0 where
  pub alone : (y : Content) → journal.Stands old.seen y → y ≡ x
  pub seen : mid.seen ≡ old.seen
  pub only : Only old.seen mid
  pub settled : Settled p.journal mid x
  pub image : Image
  pub told : IsContentsIn x.format x.image x.payloads (clusters_on old.seen) image
  pub below : image.header.last.epoch < most
  pub is : image_of p.contents ≡ raised_image image.header.last.epoch image
  pub room : All HasRoom p.contents.rows.rows
  pub opens : Opens (clusters_on old.seen) (clusters_of (map row_value p.contents.rows.rows)) p.held
  pub limit : p.limit ≡ clusters_for old

-- Within an opening: what a crash might have left before it, or the same changes and book in this epoch or the next.
abbrev pub StandsOrWas : ℕ → List (Usn × Change) → Book → State → List ℕ → Type 0
StandsOrWas epoch log b old c = old.may_leave c ⊎ (Standing epoch c log b ⊎ Standing (epoch + 1) c log b)

-- the image of a new volume
abbrev pub first_image : ℕ → Image
first_image epoch = record { header = record { last = record { epoch = epoch; place = 0 }; count = 0; next = record { 0 = 2 }; clock = 0 }; rows = row_of no_book [] root ∷ []; records = [] }

-- What an opening writes: a payload of a header alone, where the content is of format 2 and has room for it behind its
-- others, and else the whole image.
abbrev pub opening_bytes : Content → Image → ℕ
opening_bytes x i = cond (is_full x.format (size_of_records x.payloads + 54)) (30 + length (spell_image i)) 54
