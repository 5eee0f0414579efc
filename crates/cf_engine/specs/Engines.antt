-- An engine on a disk, as a library has it.
use Rattle.std.specs.Prelude.{[], Result}
use Rattle.cf_base.specs.declared.answers.Answer.{Answer}
use Rattle.cf_base.specs.declared.events.Event.{Event}
use Rattle.cf_base.specs.declared.memory.OutOfMemory.{OutOfMemory as NoMemory}
use Rattle.cf_base.specs.declared.policies.Mode.TheVariants as mode
use Rattle.cf_base.specs.declared.policies.Policy.{Policy}
use Rattle.cf_disk.specs.Disk.{State as Disk}
use Rattle.cf_engine.specs.Actors.{Syncing, acts_of}
use Rattle.cf_filter_events.specs.Meaning.{IsOn}
use Rattle.cf_filter_events.specs.Pasts.{Past}
use Rattle.cf_filter_events.specs.Stepped.{Steps}
use Rattle.cf_filter_events.specs.declared.places.RunningOn.{RunningOn as Run}
use Rattle.cf_model.specs.State.{Link, On, State, Volume, fresh, new_filter, nothing_yet}
use Rattle.cf_remote.specs.Told.{Told}

-- The engine stands for the state, between two calls of it. What the disk reports of its power cuts is that of the past.
abbrev pub IsSyncing : {D R : Type 0} → (D → Disk) → (R → Told) → Past → Run D (Syncing R) → State → Type 0
IsSyncing state told past x s = IsOn (acts_of told) state past x s

-- The event is a step of the definitions, with this answer. Where memory ran out nothing is said.
abbrev pub Does : {D R : Type 0} → (D → Disk) → (R → Told) → Event → Run D (Syncing R) → Result Answer NoMemory → Run D (Syncing R) → Type 0
Does state told e x r y = Steps mode.Replay (IsSyncing state told) e x r y

-- a volume that was just opened under this policy, with this link
abbrev pub on_volume : Policy → Link → Volume → State
on_volume policy link v = record {
  mode = mode.Replay;
  power = On;
  failed_opens = 0;
  filter = new_filter v policy;
  plan = [];
  link = link;
  volatile = fresh;
  peer_tokens = 0;
  running = nothing_yet;
}
