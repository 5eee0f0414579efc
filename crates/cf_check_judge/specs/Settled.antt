-- How far a report is settled.
use Rattle.std.specs.Prelude.{◌≡◌, ◌⊎◌, ◌≤◌, ℕ, suc, true, false, List, ◌++◌, map, take}
use Rattle.std.specs.List.{list_all}
use Rattle.cf_base.specs.declared.answers.Answer.{Answer}
use Rattle.cf_base.specs.declared.events.Event.{Event}
use Rattle.cf_check_model.specs.Judging.{IsUndecided, accepts, answer_of}
use Rattle.cf_check_text.specs.Clean.{is_clean}
use Rattle.cf_check_traces.specs.Followed.{IsFollowed, IsLight}
use Rattle.cf_check_traces.specs.Tests.{begins, both_resume}
use Rattle.cf_model.specs.State.{State}
use Rattle.cf_report.specs.Texts.{text}

-- Why an answer to a restart has the count of each accepted one: the report goes on with the answer; or the log is heavy nowhere; or not both
-- resumed.
abbrev pub HasCount : State → Event → Answer → List ℕ → Type 0
HasCount s e a rest = (begins (text a) rest ≡ true) ⊎ (IsLight s ⊎ (both_resume e a rest ≡ false))

-- A run is followed through the first events, these are left, and the report goes on with the rest. Something can be said of each event so far,
-- and the events before the last of them are accepted.
pub record IsAt (events : List Event) (report : List ℕ) (clusters done : ℕ) (es : List Event) (trace : List (Event × Answer)) (s : State) (rest : List ℕ) : Type 0 where
  pub split : events ≡ take done events ++ es
  pub run : IsFollowed events report clusters done trace s rest
  pub clean : list_all is_clean (map answer_of trace) ≡ true
  pub settled : (m : ℕ) → m ≤ done → IsUndecided events report clusters m → ⊥
  pub before : (k : ℕ) → done ≡ suc k → accepts events report clusters k
