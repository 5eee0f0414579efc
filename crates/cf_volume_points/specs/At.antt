-- A disk, and what a program knows of it, at a volume of the definitions.
use Rattle.std.specs.Prelude.{◌≡◌, ◌≤◌, ◌⊎◌, [], ◌∷◌, ℕ, true, false, List, None, Some, option_map, find, length, take, ◌==◌}
use Rattle.cf_base.specs.declared.changes.Change.{Change}
use Rattle.cf_base.specs.declared.ids.ItemId.{ItemId}
use Rattle.cf_base.specs.declared.ids.Usn.{Usn}
use Rattle.cf_clusters.specs.declared.uses.Use.{Use}
use Rattle.cf_disk.specs.Disk.{State}
use Rattle.cf_volume_image.specs.Spelled.{AreRecordsFrom}
use Rattle.cf_journal.specs.declared.journals.Journal.{Journal}
use Rattle.cf_model.specs.Books.{Book}
use Rattle.cf_model.specs.Changes.{may_need_room, put_change}
use Rattle.cf_model.specs.Formats.{Image}
use Rattle.cf_model.specs.Logs.{items_of}
use Rattle.cf_model.specs.Points.{with_room_point}
use Rattle.cf_model.specs.Standing.{Stands, clusters_of}
use Rattle.cf_model.specs.State.{Point, Volume}
use Rattle.cf_model.specs.Words.{same}
use Rattle.cf_volume_points.specs.Clusters.{HoldsCommitted}
use Rattle.cf_volume_points.specs.Holding.{Holds}
use Rattle.cf_volume_points.specs.Known.{Known, RowsRise, record_then, row_then}
use Rattle.cf_volume_points.specs.Saving.{IsBacked}
use Rattle.cf_volume_points.specs.Standing.{IsBookOf, IsLogOf, Standing, cluster_on, clusters_on}
use Rattle.cf_table.specs.Spelling.{row_value}
use Rattle.cf_table.specs.Tables.{row_of}

-- As it reads, and in each image that a crash may leave, the disk stands for this log and book, and the last commit holds its
-- clusters. The rows and the records of the table stand in order. There are no more clusters than a ground may have.
pub record Kept (s : State) (j : Journal) (uses : List Use) (epoch : ℕ) (log : List (Usn × Change)) (b : Book) (image : Image) : Type 0 where
  pub backed : IsBacked s j (length uses) image
  pub few : length uses ≤ 196608
  pub epoch_is : image.header.last.epoch ≡ epoch
  pub clusters : length uses ≡ clusters_on s.seen
  pub reads : Stands (length uses) (cluster_on s.seen) image log b
  pub stands : (c : List ℕ) → s.may_leave c → Stands (length uses) (cluster_on c) image log b
  pub book : IsBookOf (items_of log) b
  pub given : IsLogOf epoch log
  pub held : HoldsCommitted uses (clusters_of image.rows)
  pub rise : RowsRise 0 image.rows
  pub keys_rise : AreRecordsFrom None image.records

-- What changed since the image was the table is known as it was then.
pub record KnowsThen (k : Known) (i : Image) : Type 0 where
  pub rows : (id : ItemId) → find (λ r. r.id.0 == id.0) i.rows ≡ option_map row_value (row_then id k.rows_then k.next_then (row_of k.table.rows id))
  pub records : (key : List ℕ) → find (λ r. same r.key key) i.records ≡ record_then key k.records_then k.keys_made (find (λ r. same r.key key) k.records)

-- The last point.
pub record Keeps (s : State) (k : Known) (v : Volume) : Type 0 where
  pub point : Point
  pub earlier : List Point
  pub points_are : v.points ≡ point ∷ earlier
  pub early : point.count ≤ length v.log
  pub count : k.kept ≡ point.count
  pub clock : k.clock_then ≡ point.book.clock
  pub image : Image
  pub next : k.next_then ≡ image.header.next
  pub kept : Kept s k.journal k.uses v.epoch (take point.count v.log) point.book image
  pub known : KnowsThen k image

pub record At (s : State) (k : Known) (v : Volume) : Type 0 where
  pub last : Keeps s k v
  pub now : Holds s k v

-- the disk stands for the last point of the volume, or for all of it
abbrev pub StandsPoint : ℕ → List (Usn × Change) → List Point → List ℕ → Type 0
StandsPoint epoch log [] disk = ⊥
StandsPoint epoch log (p ∷ ps) disk = Standing epoch disk (take p.count log) p.book

abbrev pub StandsLast : Volume → List ℕ → Type 0
StandsLast v disk = StandsPoint v.epoch v.log v.points disk

abbrev pub StandsNow : Volume → List ℕ → Type 0
StandsNow v disk = Standing v.epoch disk v.log v.book

abbrev pub StandsEither : Volume → List ℕ → Type 0
StandsEither v disk = StandsLast v disk ⊎ StandsNow v disk

-- One more change, and no commit for room. Where the disk wants one here it is not needed.
pub record PutAtOnce (s : State) (k : Known) (c : Change) (v : Volume) : Type 0 where
  pub at : At s k (put_change c v)
  pub unwanted : s.settings.aim ≡ Some (length v.log) → may_need_room c v ≡ false

-- One more change, and a commit for room before it, which may be needed. A disk that wants one elsewhere has none here.
pub record PutAfterRoom (s : State) (k : Known) (c : Change) (v : Volume) : Type 0 where
  pub needed : may_need_room c v ≡ true
  pub wanted : (n : ℕ) → s.settings.aim ≡ Some n → n ≡ length v.log
  pub at : At s k (put_change c (with_room_point v))

-- one more change, and a commit for room before it where it may be needed and the disk wants it
abbrev pub Applied : State → Known → Change → Volume → Type 0
Applied s k c v = PutAtOnce s k c v ⊎ PutAfterRoom s k c v
