-- The worked reports are those of runs in which all goes as usual.
use Rattle.std.proofs.Common.{◌≡◌, ◌≤◌, ℕ, true, List, length, map, take}
use Rattle.cf_base.specs.declared.events.Event.{Event}
use Rattle.cf_base.specs.declared.answers.Answer.{Answer}
use Rattle.cf_base.specs.declared.policies.Mode.TheVariants as mode
use Rattle.cf_model.specs.Lawful.{AreOf, after, trace_by, usual}
use Rattle.cf_model.specs.State.{State}
use Rattle.cf_model.proofs.TraceLaws.{runs_by}
use Rattle.cf_report.specs.Texts.{texts}
use Rattle.cf_check_model.specs.Judging.{Accepted, answer_of, event_of}
use Rattle.cf_check_model.specs.Reports.{Begins}
use Rattle.cf_check_model.specs.Rows.{from_start}

-- the first events, as usual
pub accepted_as_usual : (events : List Event) (report : List ℕ) (n : ℕ) → n ≤ length events → AreOf mode.Replay (map usual (take n events))
    → map event_of (trace_by from_start (map usual (take n events))) ≡ take n events
    → (after from_start (map usual (take n events))).link.honest ≡ true
    → Begins report (texts (map answer_of (trace_by from_start (map usual (take n events)))))
    → (n ≡ length events → report ≡ texts (map answer_of (trace_by from_start (map usual (take n events)))))
    → (trace : List (Event × Answer)) × (left : State) × Accepted events report 15616 n trace left
accepted_as_usual events report n there of same kept front whole = (
  trace_by from_start (map usual (take n events)),
  after from_start (map usual (take n events)),
  record { there = there; events_are = same; lawful = runs_by mode.Replay from_start (map usual (take n events)) of; kept = kept; front = front; whole = whole },
)
