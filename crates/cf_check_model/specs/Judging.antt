-- Which verdict on a report is the right one. Events count from 1.
use Rattle.std.specs.Prelude.{◌≡◌, ◌⊎◌, ◌<◌, ◌≤◌, ℕ, zero, suc, true, List, [], ◌∷◌, ◌++◌, length, map, take}
use Rattle.cf_base.specs.declared.answers.Answer.{Answer}
use Rattle.cf_base.specs.declared.answers.OpenedBook.{OpenedBook}
use Rattle.cf_base.specs.declared.answers.Shown.TheVariants as shown
use Rattle.cf_base.specs.declared.events.DeviceEvent.TheVariants as device
use Rattle.cf_base.specs.declared.events.Event.{Event}
use Rattle.cf_base.specs.declared.events.Event.TheVariants as event
use Rattle.cf_base.specs.declared.policies.Mode.TheVariants as mode
use Rattle.cf_check_model.specs.Reports.{Begins, DeviceFails}
use Rattle.cf_check_model.specs.declared.verdicts.Verdict.{Verdict}
use Rattle.cf_check_model.specs.declared.verdicts.Verdict.TheVariants.{Lawful, Unlawful, Undecided}
use Rattle.cf_model.specs.Lawful.{Runs}
use Rattle.cf_model.specs.State.{State, book_now, start}
use Rattle.cf_model.specs.Store.{empty_remote}
use Rattle.cf_report.specs.Texts.{texts}

abbrev pub event_of : Event × Answer → Event
event_of p = p.0

abbrev pub answer_of : Event × Answer → Answer
answer_of p = p.1

-- A run of the first n events: their answers are lawful from an empty remote and so many clusters, the remote kept its rules or
-- failed, and their texts are a front of the report, and all of it where the events are all.
pub record Accepted (events : List Event) (report : List ℕ) (clusters n : ℕ) (trace : List (Event × Answer)) (after : State) : Type 0 where
  pub there : n ≤ length events
  pub events_are : map event_of trace ≡ take n events
  pub lawful : Runs mode.Replay (start mode.Replay empty_remote clusters) trace after
  pub kept : after.link.honest ≡ true
  pub front : Begins report (texts (map answer_of trace))
  pub whole : n ≡ length events → report ≡ texts (map answer_of trace)

-- the first n events have lawful answers with these texts
abbrev pub accepts : List Event → List ℕ → ℕ → ℕ → Type 0
accepts events report clusters n = (trace : List (Event × Answer)) × (after : State) × Accepted events report clusters n trace after

-- the state may be left by a restart as the last of the first n events, one that resumed
abbrev pub MayResume : List Event → List ℕ → ℕ → ℕ → State → Type 0
MayResume events report clusters n after =
    (trace : List (Event × Answer)) × (a : Answer) × (count : ℕ) × (opened : OpenedBook)
    × (a.shown ≡ shown.Resumed count opened)
    × Accepted events report clusters n (trace ++ (event.Device device.Restart, a) ∷ []) after

-- event n is a restart that resumed and may have opened two different books
abbrev pub IsAmbiguous : List Event → List ℕ → ℕ → ℕ → Type 0
IsAmbiguous events report clusters n =
    (one other : State) × MayResume events report clusters n one × MayResume events report clusters n other × (book_now one ≡ book_now other → ⊥)

-- nothing can be said of event n: the events before it are accepted and it is answered by a device that failed, or it is an
-- ambiguous restart
abbrev pub IsUndecided : List Event → List ℕ → ℕ → ℕ → Type 0
IsUndecided events report clusters zero = ⊥
IsUndecided events report clusters (suc before) =
    (before < length events) × ((accepts events report clusters before × DeviceFails report before) ⊎ IsAmbiguous events report clusters (suc before))

abbrev pub IsFirstUndecided : List Event → List ℕ → ℕ → ℕ → Type 0
IsFirstUndecided events report clusters n =
    IsUndecided events report clusters n × ((earlier : ℕ) → earlier < n → IsUndecided events report clusters earlier → ⊥)

-- the events before event n are accepted, and with it they are not; a script without events has a report that is not empty
abbrev pub IsFirstWrong : List Event → List ℕ → ℕ → ℕ → Type 0
IsFirstWrong events report clusters zero = (events ≡ []) × (accepts events report clusters 0 → ⊥)
IsFirstWrong events report clusters (suc before) =
    (before < length events) × accepts events report clusters before × (accepts events report clusters (suc before) → ⊥)

-- The verdict is right.
pub record IsVerdict (events : List Event) (report : List ℕ) (clusters : ℕ) (v : Verdict) : Type 0 where
  -- what is called lawful is
  pub lawful : v ≡ Lawful → accepts events report clusters (length events)
  -- undecided comes exactly at the first event of which nothing can be said
  pub undecided : (n : ℕ) → v ≡ Undecided n → IsFirstUndecided events report clusters n
  pub where_undecided : (n : ℕ) → IsFirstUndecided events report clusters n → v ≡ Undecided n
  -- what is called unlawful goes wrong at that event
  pub unlawful : (n : ℕ) → v ≡ Unlawful n → IsFirstWrong events report clusters n
  -- a lawful report of which all can be said is called lawful
  pub otherwise : accepts events report clusters (length events) → ((n : ℕ) → IsUndecided events report clusters n → ⊥) → v ≡ Lawful
