-- How the world stands for states of the definitions.
use Rattle.std.specs.Prelude.{◌≡◌, ◌≤◌, ◌+◌, ℕ, Bool, true, false, List, [], ◌∷◌, Some, take}
use Rattle.cf_filter_events.specs.Actors.{Acts, hushed}
use Rattle.cf_filter_events.specs.Pasts.{Past, StandsFor}
use Rattle.cf_filter_events.specs.declared.places.RunningOn.{RunningOn as Run}
use Rattle.cf_filter_events.specs.declared.places.Acting.{Acting}
use Rattle.cf_filter_events.specs.declared.places.Acting.TheVariants as acting
use Rattle.cf_filter_events.specs.declared.places.Cut.{Cut}
use Rattle.cf_disk.specs.Disk.{State as Disk, size_of}
use Rattle.cf_journal.specs.Settled.{IsFitSize}
use Rattle.cf_filter_machine.specs.Keeping.{IsKeptPoint}
use Rattle.cf_filter_machine.specs.Lasting.{Lasts}
use Rattle.cf_filter_machine.specs.Sensing.{Stands}
use Rattle.cf_filter_machine.specs.Showing.{Shows}
use Rattle.cf_model.specs.Points.{Opens}
use Rattle.cf_model.specs.Events.{begun}
use Rattle.cf_model.specs.State.{Broken, Off, On, Point, State, Volume}
use Rattle.cf_volume_points.specs.Standing.{Standing, clusters_for, clusters_on}

-- Each of these may leave in a crash what it reads as. So it is of disks, and not of a ground that no crash leaves.
abbrev pub LeavesWhatReads : {D : Type 0} → (D → Disk) → Type 0
LeavesWhatReads {D} state = (x : D) → (state x).may_leave (state x).seen

-- It lets a volume use as many clusters as this one may, and tells these power cuts. A disk has a fit size.
pub record IsDiskOf {D : Type 0} (state : D → Disk) (past : Past) (d : Disk) (v : Volume) : Type 0 where
  pub fit : LeavesWhatReads state → IsFitSize (size_of d)
  pub clusters : v.clusters ≡ clusters_for d
  pub powers : d.powers ≡ past.told

-- After an event that met Device only the policy stands, what shows of the volume, in no more blocks than the disk has clusters, and
-- what a restart may open.
abbrev pub OnBy : {D A : Type 0} → Acts A → (D → Disk) → Bool → Run D A → State → Type 0
OnBy acts state false x s = (s.power ≡ On) × acts.stands x.actor s × Stands state x.filter (hushed s.filter)
OnBy acts state true x s = (s.power ≡ Broken) × acts.holds x.actor s × (x.filter.desk.policy ≡ s.filter.policy) × Lasts (state x.filter.disk) s.filter.volume × Shows (clusters_on (state x.filter.disk).seen) x.filter.known s.filter.volume

-- the volume is open
pub record IsOn {D A : Type 0} (acts : Acts A) (state : D → Disk) (past : Past) (x : Run D A) (s : State) : Type 0 where
  pub mode : s.mode ≡ acts.mode
  pub quiet : x.filter.desk.notes ≡ []
  pub disk : IsDiskOf state past (state x.filter.disk) s.filter.volume
  pub is : OnBy acts state x.filter.desk.broken x s

-- The volume is open, no event met Device, and the actor has begun an event.
pub record IsBegun {D A : Type 0} (acts : Acts A) (state : D → Disk) (past : Past) (x : Run D A) (s : State) : Type 0 where
  pub mode : s.mode ≡ acts.mode
  pub power : s.power ≡ On
  pub sees : acts.sees x.actor (begun s)
  pub whole : x.filter.desk.broken ≡ false
  pub quiet : x.filter.desk.notes ≡ []
  pub disk : IsDiskOf state past (state x.filter.disk) s.filter.volume
  pub stands : Stands state x.filter (hushed s.filter)

-- The image stands for the point, in the epoch of the volume or in one that a failed opening took.
pub record IsOfEpoch (s : State) (p : Point) (image : List ℕ) : Type 0 where
  pub taken : ℕ
  pub few : taken ≤ s.failed_opens
  pub stands : Standing (s.filter.volume.epoch + taken) image (take p.count s.filter.volume.log) p.book

-- the latest of the points
abbrev pub IsNewest : Point → List Point → Type 0
IsNewest p points = (earlier : List Point) × (points ≡ p ∷ earlier)

-- The power was cut: whatever a crash leaves now stands for one point, which a restart may open, and so does the image that
-- the last power cut left. Where no event met Device before, it is the newest point.
pub record IsOff {D A : Type 0} (acts : Acts A) (state : D → Disk) (past : Past) (x : Cut D A) (s : State) : Type 0 where
  pub mode : s.mode ≡ acts.mode
  pub power : s.power ≡ Off
  pub holds : acts.holds x.actor s
  pub policy : x.policy ≡ s.filter.policy
  pub disk : IsDiskOf state past (state x.disk) s.filter.volume
  pub point : Point
  pub opens : Opens s.filter.volume.points point
  pub newest : x.whole ≡ true → IsNewest point s.filter.volume.points
  pub kept : IsKeptPoint s.filter.volume.epoch s.filter.volume.log point
  pub lasts : (c : List ℕ) → (state x.disk).may_leave c → IsOfEpoch s point c
  pub image : List ℕ
  pub last : past.last ≡ Some image
  pub left : StandsFor image (take point.count s.filter.volume.log) point.book

-- the world stands for the state, after these power cuts
abbrev pub Is : {D A : Type 0} → Acts A → (D → Disk) → Past → Acting D A → State → Type 0
Is acts state past (acting.On x) s = IsOn acts state past x s
Is acts state past (acting.Off x) s = IsOff acts state past x s
