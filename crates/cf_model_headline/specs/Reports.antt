-- What a report shows of the accepted changes.
use Rattle.std.specs.Prelude.{ℕ, Bool, true, false, List, [], take, ◌∷◌, ◌++◌, ◌≡◌}
use Rattle.cf_base.specs.declared.answers.Answer.{Answer}
use Rattle.cf_base.specs.declared.answers.Shown.{Shown}
use Rattle.cf_base.specs.declared.answers.Shown.TheVariants as shown
use Rattle.cf_base.specs.declared.changes.Change.{Change}
use Rattle.cf_base.specs.declared.events.DeviceEvent.TheVariants as device
use Rattle.cf_base.specs.declared.events.Event.{Event}
use Rattle.cf_base.specs.declared.events.Event.TheVariants as event
use Rattle.cf_base.specs.declared.ids.Usn.{Usn}
use Rattle.cf_base.specs.declared.notices.Notice.{Notice}
use Rattle.cf_base.specs.declared.notices.Notice.TheVariants as notice
use Rattle.cf_base.specs.declared.policies.Mode.{Mode}
use Rattle.cf_model.specs.Lawful.{IsStep, Runs}
use Rattle.cf_model.specs.State.{State, start}
use Rattle.cf_model.specs.Store.{Held}

-- the events of a script, each with its answer
abbrev pub Report : Type 0
Report = List (Event × Answer)

-- after these events of the report comes this one, with this answer
abbrev pub IsAnswered : Report → Report → Event → Answer → Type 0
IsAnswered report before e a = (rest : Report) × (report ≡ before ++ (e, a) ∷ rest)

-- the accepted change that a line shows, with its number
abbrev pub change_in : Notice → List (Usn × Change)
change_in (notice.Change number c) = (number, c) ∷ []
change_in _ = []

abbrev pub changes_in : List Notice → List (Usn × Change)
changes_in [] = []
changes_in (n ∷ ns) = change_in n ++ changes_in ns

-- a restart that resumes keeps the first changes, as many as it says
abbrev pub resumed_with : Shown → List (Usn × Change) → List (Usn × Change)
resumed_with (shown.Resumed count opened) log = take count log
resumed_with _ log = log

-- the changes that stand after an answer: those before it, and those that its lines show
abbrev pub after_answer : List (Usn × Change) → Event → Answer → List (Usn × Change)
after_answer log (event.Device device.Restart) a = resumed_with a.shown log
after_answer log e a = log ++ changes_in a.notes

abbrev pub standing_from : List (Usn × Change) → Report → List (Usn × Change)
standing_from log [] = log
standing_from log (p ∷ ps) = standing_from (after_answer log p.0 p.1) ps

-- the changes that stand after a report, with their numbers
abbrev pub standing : Report → List (Usn × Change)
standing report = standing_from [] report

abbrev pub is_device : Event → Bool
is_device (event.Device e) = true
is_device (event.Call c) = false
is_device (event.Peer e) = false
is_device (event.Engine e) = false
is_device (event.Provider e) = false

-- this holds of each event of a run, with the report before it, the state there, its answer and the state after it
abbrev pub OfEach : Mode → Held → ℕ → Report → State → (Report → State → Event → Answer → State → Type 0) → Type 0
OfEach m remote clusters report last P =
    (before rest : Report) (s : State) (e : Event) (a : Answer) (t : State)
    → report ≡ before ++ (e, a) ∷ rest → Runs m (start m remote clusters) before s → IsStep m s e a t → Runs m t rest last → P before s e a t
