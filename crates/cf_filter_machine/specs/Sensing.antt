-- How a filter on a disk stands for states of the definitions.
use Rattle.std.proofs.Common.{◌≡◌, ap, arith}
use Rattle.std.specs.Prelude.{false}
use Rattle.cf_disk.specs.Disk.{HasFailed, State}
use Rattle.cf_engine_queue.specs.Records.{IsKeepable}
use Rattle.cf_filter_machine.specs.Lasts.{lasts_at, moved_on, stays_put}
use Rattle.cf_filter_desk.specs.Desks.{Desk, desk_of}
use Rattle.cf_filter_machine.specs.Held.{Held}
use Rattle.cf_filter_machine.specs.Keeping.{HasKeptPoints, IsKeptVolume}
use Rattle.cf_filter_machine.specs.Lasting.{Lasts, Moved}
use Rattle.cf_filter_machine.specs.Showing.{Shows}
use Rattle.cf_volume.specs.Calls.{Runs}
use Rattle.cf_model.specs.State.{Filter}
use Rattle.cf_volume_points.proofs.Points.{Fair}
use Rattle.cf_volume_points.specs.At.{At}
use Rattle.cf_volume_points.specs.Standing.{clusters_on}
use Rattle.cf_volume_room.specs.Aims.{IsAimedBy}
use Rattle.cf_filter_steps.specs.Answering.{Sense}
use Rattle.cf_filter_steps.specs.Good.{IsGood}

-- The disk and what is known are at the volume of the state, the desk is its desk, and no call has broken it.
pub record Stands {D : Type 0} (state : D → State) (x : Held D) (s : Filter) : Type 0 where
  pub fair : Fair (state x.disk)
  pub volume : At (state x.disk) x.known s.volume
  pub desk : x.desk ≡ desk_of s
  pub whole : x.known.broken ≡ false
  pub good : IsGood s
  pub kept : IsKeptVolume s.volume
  pub points : HasKeptPoints s.volume
  -- commits for room were made where the disk wants them
  pub aimed : IsAimedBy (state x.disk).settings.aim s.volume

-- a device call failed from the one to the other
abbrev pub Rose : State → State → Type 0
Rose d e = HasFailed d e

pub rose_on : (c d e : State) → Runs c d → Rose d e → Rose c e
rose_on c d e runs rose = (omega (arith, runs.faults, rose.0), omega (arith, runs.calm, rose.1))

-- After a device call that failed: what was told stands, the volume shows what the state has, in no more blocks than the disk has
-- clusters, and a restart opens a point of it.
pub record Stopped {D : Type 0} (state : D → State) (x : Held D) (s : Filter) : Type 0 where
  pub notes : x.desk.notes ≡ s.notes
  pub policy : x.desk.policy ≡ s.policy
  pub connected : x.desk.connected ≡ s.connected
  pub shows : Shows (clusters_on (state x.disk).seen) x.known s.volume
  pub lasts : Lasts (state x.disk) s.volume

abbrev pub sense : {D : Type 0} → (D → State) → Sense (Held D)
sense state = record {
  means = Stands state;
  stopped = λ x y t. Stopped state y t × Rose (state x.disk) (state y.disk);
  durable = λ x s. Lasts (state x.disk) s.volume;
  moved = λ x y s t. Moved (state x.disk) (state y.disk) s.volume t.volume;
  good = λ x s h. h.good;
  endures = λ x s h. lasts_at (state x.disk) x.known s.volume h.fair h.volume h.points;
  stays = λ x s h. stays_put (state x.disk) x.known s.volume h.fair h.volume h.points;
  goes_on = λ x y z s t u a b. moved_on (state x.disk) (state y.disk) (state z.disk) s.volume t.volume u.volume a b;
  stops_on = λ x y z s t u a b. (b.0, rose_on (state x.disk) (state y.disk) (state z.disk) a.runs b.1);
}

pub waits_known : {D : Type 0} (state : D → State) (x : Held D) (s : Filter) → Stands state x s → x.desk.waiting ≡ s.waiting
waits_known state x s h = ap (λ (d : Desk). d.waiting) h.desk

-- its book fits its records
pub keepable : {D : Type 0} (state : D → State) (x : Held D) (s : Filter) → Stands state x s → IsKeepable s.volume.book
keepable state x s h = h.kept.book.fits
