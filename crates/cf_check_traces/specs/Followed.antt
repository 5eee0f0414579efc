-- A run that is followed beside a report, and the answer that it gives to the next event.
use Rattle.std.specs.Prelude.{◌≡◌, ◌≤◌, ℕ, suc, true, false, List, [], ◌∷◌, ◌++◌, Some, length, map, slice_get, take}
use Rattle.cf_base.specs.declared.answers.Answer.{Answer}
use Rattle.cf_base.specs.declared.answers.OpenedBook.{OpenedBook}
use Rattle.cf_base.specs.declared.answers.Shown.TheVariants as shown
use Rattle.cf_base.specs.declared.events.DeviceEvent.TheVariants as device
use Rattle.cf_base.specs.declared.events.Event.{Event}
use Rattle.cf_base.specs.declared.events.Event.TheVariants as event
use Rattle.cf_base.specs.declared.policies.Mode.TheVariants as mode
use Rattle.cf_check_model.specs.Judging.{Accepted, answer_of, event_of}
use Rattle.cf_check_model.specs.Reports.{device_line, result_lines}
use Rattle.cf_model_room.specs.Rooms.{is_heavy, sure_count}
use Rattle.cf_check_text.specs.Clean.{is_clean}
use Rattle.cf_check_traces.specs.Decided.{IsStopped, MeetsFaults, MeetsResult, NoneStopped}
use Rattle.cf_check_ways.specs.Ways.{Alike, SamePoints, core_of, is_good, of_state}
use Rattle.cf_model.specs.Lawful.{IsStep, Runs}
use Rattle.cf_model.specs.State.{State, start}
use Rattle.cf_model.specs.Store.{empty_remote}
use Rattle.cf_report.specs.Texts.{texts}

-- What is known of a run that is followed through the first n events of a script, and of how the report goes on.
pub record IsFollowed (events : List Event) (report : List ℕ) (clusters n : ℕ) (trace : List (Event × Answer)) (s : State) (rest : List ℕ) : Type 0 where
  pub there : n ≤ length events
  pub events_are : map event_of trace ≡ take n events
  pub lawful : Runs mode.Replay (start mode.Replay empty_remote clusters) trace s
  pub kept : s.link.honest ≡ true
  pub text_is : report ≡ texts (map answer_of trace) ++ rest
  pub none : NoneStopped trace
  -- no other run of so many events is accepted, and each that is has the points that a restart may open here
  pub only : (more : List (Event × Answer)) (u : State) → Accepted events report clusters n more u → (more ≡ trace) × Alike of_state s u × SamePoints (core_of s.filter.volume) (core_of u.filter.volume)

-- no commit for room may have been made since the last sure point, in it or in another run
abbrev pub IsLight : State → Type 0
IsLight s = (k : ℕ) → is_heavy s.filter.volume.clusters (sure_count s.filter.volume.points) s.filter.volume.log k ≡ false

-- Where the next event is a restart, and an accepted run goes on with one that resumed, the answer has no other count.
abbrev pub ResumesAsAccepted : List Event → List ℕ → ℕ → ℕ → Answer → Type 0
ResumesAsAccepted events report clusters n a =
    (front : List (Event × Answer)) (b : Answer) (u : State) (k l : ℕ) (x y : OpenedBook) → length front ≡ n
    → Accepted events report clusters (suc n) (front ++ (event.Device device.Restart, b) ∷ []) u → a.shown ≡ shown.Resumed k x → b.shown ≡ shown.Resumed l y → k ≡ l

-- What is known of an answer that the run gives to the next event. None of it needs the report to go on with that answer.
pub record IsNext (events : List Event) (report : List ℕ) (clusters n : ℕ) (s : State) (e : Event) (a : Answer) (t : State) (rest : List ℕ) : Type 0 where
  pub step : IsStep mode.Replay s e a t
  pub good : is_good t ≡ true
  pub runs : IsStopped a → ⊥
  pub clean : is_clean a ≡ true
  pub meets : MeetsFaults a rest
  pub alone : MeetsResult s e a rest
  pub result : slice_get (result_lines rest) 0 ≡ Some device_line → ⊥
  pub counts : e ≡ event.Device device.Restart → ResumesAsAccepted events report clusters n a
