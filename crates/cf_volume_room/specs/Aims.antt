-- Where a volume makes a commit for room, on a disk that may want it after a number of changes.
use Rattle.std.specs.Prelude.{◌≡◌, ◌<◌, ◌≤◌, ◌+◌, ℕ, true, false, [], ◌∷◌, length, Option, Some, None}
use Rattle.cf_model_room.specs.Rooms.{is_heavy, load_since, sure_count}
use Rattle.cf_model.specs.Blocks.{blocks_used}
use Rattle.cf_model.specs.Logs.{items_of}
use Rattle.cf_model.specs.Points.{Opens}
use Rattle.cf_model.specs.State.{Point, Volume}
use Rattle.cf_volume_room.specs.Rising.{AreRising}

-- no commit for room was made since the last point of a flush, an upload or a restart
abbrev pub HasNoRoom : Volume → Type 0
HasNoRoom v = (p : Point) → Opens v.points p → p.sure ≡ true

-- A volume on a disk that wants a commit for room after n changes.
pub record IsAimed (n : ℕ) (v : Volume) : Type 0 where
  -- each commit for room was made directly before change n + 1
  pub alone : (p : Point) → Opens v.points p → p.sure ≡ false → p.count ≡ n
  -- where there was none, the load of the log is what was used at the last point and what was put since
  pub load : HasNoRoom v → load_since (sure_count v.points) v.log ≡ blocks_used v.items_then + v.put_since
  -- and where the log is longer than n, it is not heavy there
  pub light : HasNoRoom v → n < length v.log → is_heavy v.clusters (sure_count v.points) v.log n ≡ false

-- A volume on a disk that wants one after so many changes, or does not say where.
abbrev pub IsAimedBy : Option ℕ → Volume → Type 0
IsAimedBy None v = Unit {0}
IsAimedBy (Some n) v = IsAimed n v

-- what the aim is about is the same
pub record IsAlike (v w : Volume) : Type 0 where
  pub clusters : w.clusters ≡ v.clusters
  pub log : w.log ≡ v.log
  pub points : w.points ≡ v.points
  pub items_then : w.items_then ≡ v.items_then
  pub put_since : w.put_since ≡ v.put_since

-- What a change finds: the items are those of the log, in order, and the last sure point has no more changes than the log.
pub record IsReady (v : Volume) : Type 0 where
  pub items : v.items ≡ items_of v.log
  pub rise : AreRising 0 v.items
  pub there : sure_count v.points ≤ length v.log

-- The volume has one point, which is a sure one and has all of its changes.
pub record IsSettled (v : Volume) : Type 0 where
  pub point : Point
  pub points : v.points ≡ point ∷ []
  pub sure : point.sure ≡ true
  pub all : length v.log ≤ point.count
  pub items_then : v.items_then ≡ items_of v.log
  pub none_since : v.put_since ≡ 0
