-- Which traces are lawful, and what they leave.
--
-- To compute: `answers start events` gives the answers to events, each with its choices. For example
-- `answers (start Mode.Filter empty_remote 15616) (map usual events)`, where `usual e` is an event in which the device does
-- not stop, no request fails, no commit for room is made and a restart opens the last sure point. An event with other
-- choices is a pair `(record plainly { stop = Some n }, e)`: the device stops in the step after the first n; `forks` says at each
-- place that is left open whether the second way is taken, `tellings` what the remote does at each ask of the event.
use Rattle.std.specs.Prelude.{ℕ, true, List, [], ◌∷◌, ◌≡◌}
use Rattle.cf_base.specs.declared.answers.Answer.{Answer}
use Rattle.cf_base.specs.declared.events.Event.{Event}
use Rattle.cf_base.specs.declared.policies.Mode.{Mode}
use Rattle.cf_model.specs.Events.{is_of, on_event}
use Rattle.cf_model.specs.State.{State, start}
use Rattle.cf_model.specs.Store.{Held}
use Rattle.cf_model.specs.Trees.{Choices, plainly}

-- one event: it is one of the mode, and its answer and the state that it leaves are those of some choices
abbrev pub IsStep : Mode → State → Event → Answer → State → Type 0
IsStep m s e a t = (is_of m e ≡ true) × (c : Choices) × (◌≡◌ {A = State × Answer} (on_event c s e) (t, a))

-- the events with these answers lead from the one state to the other
abbrev pub Runs : Mode → State → List (Event × Answer) → State → Type 0
Runs m s [] t = t ≡ s
Runs m s (p ∷ ps) t = (mid : State) × IsStep m s p.0 p.1 mid × Runs m mid ps t

-- A trace of a command over a fresh volume of so many clusters, with this remote: each answer is one that the rules give.
abbrev pub Lawful : Mode → Held → ℕ → List (Event × Answer) → Type 0
Lawful m remote clusters trace = (t : State) × Runs m (start m remote clusters) trace t

-- by choices

-- an event in which all goes as usual
abbrev pub usual : Event → Choices × Event
usual e = (plainly, e)

-- the state that these events leave
abbrev pub after : State → List (Choices × Event) → State
after s [] = s
after s (p ∷ ps) = after (on_event p.0 s p.1).0 ps

-- the answers to these events
abbrev pub answers : State → List (Choices × Event) → List Answer
answers s [] = []
answers s (p ∷ ps) = let r : State × Answer = on_event p.0 s p.1 in r.1 ∷ answers r.0 ps

-- the events with these answers
abbrev pub trace_by : State → List (Choices × Event) → List (Event × Answer)
trace_by s [] = []
trace_by s (p ∷ ps) = let r : State × Answer = on_event p.0 s p.1 in (p.1, r.1) ∷ trace_by r.0 ps

abbrev pub AreOf : Mode → List (Choices × Event) → Type 0
AreOf m [] = Unit {0}
AreOf m (p ∷ ps) = (is_of m p.1 ≡ true) × AreOf m ps
