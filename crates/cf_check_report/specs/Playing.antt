-- What a device does in an event.
use Rattle.std.specs.Prelude.{◌≡◌, ◌∷◌, ◌&&◌, ℕ, Bool, List, Option, cond, true, false, Result, Ok, Err}
use Rattle.cf_base.specs.declared.answers.Answer.{Answer}
use Rattle.cf_base.specs.declared.events.Event.{Event}
use Rattle.cf_base.specs.declared.memory.OutOfMemory.{OutOfMemory as NoMemory}
use Rattle.cf_base.specs.declared.policies.Mode.TheVariants as mode
use Rattle.cf_check_report.specs.Counts.{count_of}
use Rattle.cf_check_traces.specs.Tests.{is_device, is_restart, is_resumed}
use Rattle.cf_model.specs.Lawful.{IsStep}
use Rattle.cf_model.specs.State.{Point, State}

-- a restart resumed
abbrev pub resumes : Event → Answer → Bool
resumes e a = is_restart e && is_resumed a.shown

-- a restart that resumed resumed the newest point
abbrev pub ResumesNewest : Event → Answer → List Point → Type 0
ResumesNewest e a points = resumes e a ≡ true → (p : Point) (earlier : List Point) → points ≡ p ∷ earlier → count_of a.shown ≡ p.count

-- a volume that a restart opened is aimed anew
abbrev pub aim_after : Event → Answer → (old next : Option ℕ) → Option ℕ
aim_after e a old next = cond (resumes e a) next old

-- A step of the definitions, with this answer, beside a remote that kept its rules. Where the device did not fail in it, it stands for the state
-- after it.
abbrev pub PlayedTo : {D : Type 0} → (D → Option ℕ → State → Type 0) → Event → (next aim : Option ℕ) → State → Result Answer NoMemory → D → Type 0
PlayedTo Stands e next aim s (Ok a) new =
    (t : State) × IsStep mode.Replay s e a t × (t.link.honest ≡ true) × (is_device a.shown ≡ false → Stands new (aim_after e a aim next) t × ResumesNewest e a s.filter.volume.points)
PlayedTo Stands e next aim s (Err m) new = Unit {0}

-- so it is in each state that the device stands for
pub record Plays {D : Type 0} (Stands : D → Option ℕ → State → Type 0) (e : Event) (next : Option ℕ) (old : D) (r : Result Answer NoMemory) (new : D) : Type 0 where
  pub leads : (aim : Option ℕ) (s : State) → Stands old aim s → PlayedTo Stands e next aim s r new
