-- Events of the engine on the open volume, as steps of the definitions.
use Rattle.std.specs.Prelude.{ℕ, Result, Ok, Err}
use Rattle.cf_base.specs.declared.answers.Answer.{Answer}
use Rattle.cf_base.specs.declared.answers.Shown.{Shown}
use Rattle.cf_base.specs.declared.codes.CallError.{CallError}
use Rattle.cf_base.specs.declared.events.EngineEvent.{EngineEvent}
use Rattle.cf_base.specs.declared.events.Event.TheVariants as event
use Rattle.cf_base.specs.declared.memory.OutOfMemory.{OutOfMemory as NoMemory}
use Rattle.cf_disk.specs.Disk.{State as Disk}
use Rattle.cf_engine.specs.Actors.{acts_of}
use Rattle.cf_engine_steps.specs.States.{Own}
use Rattle.cf_filter.specs.Calling.{Told as Said}
use Rattle.cf_filter_events.specs.Counted.{StepsOn}
use Rattle.cf_filter_machine.specs.Held.{Held}
use Rattle.cf_remote.specs.Told.{Told}

-- a refusal of a part of an event is an answer, and no error
abbrev pub said : Result Shown CallError → Said Shown
said (Ok a) = Ok (Ok a)
said (Err e) = Err e

-- a step of the definitions, whatever token of other devices is next
abbrev pub StepsEngine : {D R : Type 0} → (D → Disk) → (R → Told) → EngineEvent → Held D → Own R → Result Answer NoMemory → Held D → Own R → Type 0
StepsEngine state told e x c r y f = (next : ℕ) → StepsOn (acts_of told) state (event.Engine e) (record { filter = x; actor = record { engine = c; next = next } }) r (record { filter = y; actor = record { engine = f; next = next } })
