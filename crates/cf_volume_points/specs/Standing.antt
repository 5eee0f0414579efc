-- When the bytes of a disk stand for a log and a book.
use Rattle.std.specs.Prelude.{◌≡◌, ◌+◌, ◌-◌, ◌/◌, ℕ, true, List, [], ◌∷◌, length, min, None, take}
use Rattle.cf_base.specs.declared.changes.Change.{Change}
use Rattle.cf_base.specs.declared.ids.ItemId.{ItemId}
use Rattle.cf_base.specs.declared.ids.Usn.{Usn}
use Rattle.cf_clusters.specs.Area.{place}
use Rattle.cf_disk.specs.Disk.{State, part}
use Rattle.cf_volume_image.specs.States.{IsContentsIn}
use Rattle.cf_journal.specs.Content.{Content}
use Rattle.cf_journal.specs.Content as journal
use Rattle.cf_model.specs.Books.{Book, access_of, anchor_of}
use Rattle.cf_model.specs.Formats.{Image}
use Rattle.cf_model.specs.Given.{AllBelow}
use Rattle.cf_model.specs.Items.{Item, item_of}
use Rattle.cf_model.specs.Logs.{items_of, next_of}
use Rattle.cf_model.specs.Numbers.{no_usn}
use Rattle.cf_model.specs.Standing.{Stands}
use Rattle.cf_model.specs.State.{Point, Volume}
use Rattle.cf_table.specs.Means.{AreUpTo}

-- how many clusters a disk has behind the two halves of the journal, and the bytes of one of them
abbrev pub clusters_on : List ℕ → ℕ
clusters_on disk = (length disk - 3145728) / 4096

abbrev pub cluster_on : List ℕ → ℕ → List ℕ
cluster_on disk k = part (place k) 4096 disk

-- how many clusters a volume on the disk may use, whose quota may be less than there are
abbrev pub clusters_for : State → ℕ
clusters_for s = min s.settings.quota (clusters_on s.seen)

-- the book keeps no anchor and no access of an item that is not there
abbrev pub IsBookOf : List Item → Book → Type 0
IsBookOf items b = (id : ItemId) → item_of items id ≡ None → (anchor_of b id ≡ no_usn) × (access_of b id ≡ 0)

-- an item has a flag for each position, and its writes are numbered up to its own number
abbrev pub AreWhole : List Item → Type 0
AreWhole [] = Unit {0}
AreWhole (i ∷ is) = (length i.valid ≡ length i.held) × AreUpTo i.number i.writes × AreWhole is

-- What no bytes say of a log: its numbers are of the epochs up to this one, and its items are whole.
pub record IsLogOf (epoch : ℕ) (log : List (Usn × Change)) : Type 0 where
  pub below : AllBelow (record { epoch = epoch + 1; place = 1 }) log
  pub whole : AreWhole (items_of log)

-- The disk stands for the changes of the log and the book, in this epoch: the journal's content tells an image, which is
-- sound in the content's format, and stands for them with the clusters.
pub record Standing (epoch : ℕ) (disk : List ℕ) (log : List (Usn × Change)) (b : Book) : Type 0 where
  pub content : Content
  pub image : Image
  pub holds : journal.Stands disk content
  pub told : IsContentsIn content.format content.image content.payloads (clusters_on disk) image
  pub epoch_is : image.header.last.epoch ≡ epoch
  pub stands : Stands (clusters_on disk) (cluster_on disk) image log b
  pub book : IsBookOf (items_of log) b
  pub given : IsLogOf epoch log

-- the volume of an epoch that begins with them
abbrev pub opened : ℕ → List (Usn × Change) → Book → ℕ → Volume
opened epoch log b clusters = record {
  clusters = clusters;
  epoch = epoch;
  log = log;
  items = items_of log;
  next_item = record { 0 = next_of log };
  place = 0;
  points = record { sure = true; count = length log; book = b } ∷ [];
  items_then = items_of log;
  put_since = 0;
  book = b;
}

-- the disk stands for a point of a log
abbrev pub StandsFor : ℕ → List (Usn × Change) → Point → List ℕ → Type 0
StandsFor epoch log p disk = Standing epoch disk (take p.count log) p.book
