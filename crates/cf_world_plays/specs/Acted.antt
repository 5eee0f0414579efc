-- What an event does to a world that is there.
use Rattle.std.specs.Prelude.{Result}
use Rattle.cf_base.specs.declared.answers.Answer.{Answer}
use Rattle.cf_base.specs.declared.events.Event.{Event}
use Rattle.cf_base.specs.declared.memory.OutOfMemory.{OutOfMemory as NoMemory}
use Rattle.cf_disk.specs.Disk.{State as Disk}
use Rattle.cf_filter_events.specs.Actors.{Acts}
use Rattle.cf_filter_events.specs.Counted.{CountsOver}
use Rattle.cf_filter_events.specs.Faulted.{Faults}
use Rattle.cf_filter_events.specs.Meaning.{Is}
use Rattle.cf_filter_events.specs.Stepped.{Bears, StepsOver, actor_of, disk_of}
use Rattle.cf_filter_events.specs.declared.places.Acting.{Acting}

-- Which state the answer leads to, which failed calls of the disk it reports, what is armed or cut there, and which faults of the remote it
-- reports.
pub record Acted {D A : Type 0} (state : D → Disk) (W : Acts A) (e : Event) (r : Result Answer NoMemory) (old new : Acting D A) : Type 0 where
  pub steps : StepsOver W.mode (Is W state) e old r new
  pub counts : CountsOver (Is W state) e old r (state (disk_of old)) (state (disk_of new))
  pub bears : Bears e (state (disk_of old)) (state (disk_of new))
  pub faults : Faults (Is W state) old r (W.remote (actor_of old)) (W.remote (actor_of new))
