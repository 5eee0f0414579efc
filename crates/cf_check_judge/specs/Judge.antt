-- A judge of a report: it follows one run, event by event, by what the report tells of the remote's faults.
--
-- The run makes no commit for room. Where all that its log needed since the last sure point fits into the clusters no other run makes one, and a
-- restart may open one point alone. Elsewhere a report whose restart resumes another count may be that of a run that made one.
use Rattle.std.specs.Prelude.{ℕ, Bool, true, false, not, List, [], ◌∷◌, ◌+◌, ◌&&◌, ◌==◌, Option, Some, None, cond, codes, drop, length, slice_get, nat_le}
use Rattle.cf_base.specs.declared.answers.Answer.{Answer}
use Rattle.cf_base.specs.declared.events.EngineEvent.TheVariants as engine
use Rattle.cf_base.specs.declared.events.Event.{Event}
use Rattle.cf_base.specs.declared.events.Event.TheVariants as event
use Rattle.cf_base.specs.declared.policies.Mode.TheVariants as mode
use Rattle.cf_check_traces.specs.Tests.{begins, both_resume, fault_line_of_peer, is_device, meets_alone, meets_lines}
use Rattle.cf_check_text.specs.Clean.{is_clean}
use Rattle.cf_check_ways.specs.Ways.{is_fault, is_good}
use Rattle.cf_check_judge.specs.Bytes.{same_bytes}
use Rattle.cf_model_room.specs.Rooms.{load_since, sure_count}
use Rattle.cf_check_model.specs.Reports.{device_line, lines_of, result_lines}
use Rattle.cf_check_model.specs.declared.verdicts.Verdict.{Verdict}
use Rattle.cf_check_model.specs.declared.verdicts.Verdict.TheVariants.{Lawful, Unlawful, Undecided}
use Rattle.cf_model.specs.Events.{is_of, on_event}
use Rattle.cf_model.specs.State.{State, start}
use Rattle.cf_model.specs.Store.{empty_remote}
use Rattle.cf_model.specs.Trees.{AsItKeeps, Choices, Faults, Telling}
use Rattle.cf_model.specs.Words.{is_empty}
use Rattle.cf_report.specs.Texts.{text}

-- texts

abbrev pub is_line : List ℕ → Option (List ℕ) → Bool
is_line expected None = false
is_line expected (Some line) = same_bytes expected line

-- the first line that tells a result, from here on
abbrev pub first_result : List ℕ → Option (List ℕ)
first_result rest = slice_get (result_lines rest) 0

-- what the report tells of the remote

abbrev pub is_fault_line : List ℕ → Bool
is_fault_line line = begins (codes "- fault ") line

abbrev pub is_fault_next : List (List ℕ) → Bool
is_fault_next [] = false
is_fault_next (line ∷ lines) = is_fault_line line

-- the word after the number of a message: of a reply it is another than of a request
abbrev pub is_reply_word : List ℕ → Bool
is_reply_word [] = false
is_reply_word (b ∷ bs) = cond (b == 32) (begins (codes "reply ") bs) (is_reply_word bs)

abbrev pub is_request_line : List ℕ → Bool
is_request_line line = begins (codes "- sent ") line && not (is_reply_word (drop 7 line))

abbrev pub telling_of : Bool → Telling
telling_of true = Faults
telling_of false = AsItKeeps

-- the lines of an answer before its result
abbrev pub before_result : List (List ℕ) → List (List ℕ)
before_result [] = []
before_result (line ∷ lines) = cond (begins (codes "= ") line) [] (line ∷ before_result lines)

-- under an inline link each request that was sent comes to the remote at once; it failed where the next line says so
abbrev pub tellings_in : List (List ℕ) → List Telling
tellings_in [] = []
tellings_in (line ∷ lines) = cond (is_request_line line) (telling_of (is_fault_next lines) ∷ tellings_in lines) (tellings_in lines)

abbrev pub is_peer_fault : List ℕ → Bool
is_peer_fault rest = begins fault_line_of_peer rest

abbrev pub tellings_for : Event → List ℕ → List Telling
tellings_for (event.Peer e) rest = telling_of (is_peer_fault rest) ∷ []
tellings_for (event.Engine (engine.Arrive m)) rest = telling_of (is_fault_next (lines_of rest)) ∷ []
tellings_for _ rest = tellings_in (before_result (lines_of rest))

-- one step of the judge: it goes on, or it says where the report goes wrong, or that nothing can be said, or it gives up
pub data Judged : Type 0 where
  GoesOn : Answer → State → List ℕ → Judged
  Wrong : Judged
  Open : Judged
  Lost : Judged

-- the report says that the remote failed another device, and this one's event did not ask it
abbrev pub asks_nothing : Answer → List ℕ → Bool
asks_nothing a rest = is_peer_fault rest && not (is_fault a.shown)

-- What is tested of an answer before the report is held against it. It passes in every run that keeps to what the report tells;
-- where it did not, the judge gives up.
abbrev pub may_judge : State → Event → Answer → List ℕ → Bool
may_judge t e a rest = is_good t && not (is_device a.shown) && is_clean a && meets_lines a.notes rest && meets_alone e a rest (asks_nothing a rest)

-- the event, with what the report tells of the remote, and all else as usual
abbrev pub told_choices : Event → List ℕ → Choices
told_choices e rest = record { stop = None; forks = []; tellings = tellings_for e rest }

abbrev pub event_told : Event → List ℕ → State → State × Answer
event_told e rest s = on_event (told_choices e rest) s e

-- no commit for room may have been made since the last sure point
abbrev pub is_light : State → Bool
is_light s = nat_le (load_since (sure_count s.filter.volume.points) s.filter.volume.log) s.filter.volume.clusters

-- a run with a commit for room may resume the count that the report tells
abbrev pub may_part : Event → Answer → List ℕ → State → Bool
may_part e a rest s = both_resume e a rest && not (is_light s)

abbrev pub matched : (tested same parts : Bool) → List ℕ → Answer → State → Judged
matched false same parts rest a t = Lost
matched true true parts rest a t = GoesOn a t (drop (length (text a)) rest)
matched true false true rest a t = Lost
matched true false false rest a t = Wrong

abbrev pub followed : Event → List ℕ → State → Judged
followed e rest s = let r : State × Answer = event_told e rest s in matched (may_judge r.0 e r.1 rest) (begins (text r.1) rest) (may_part e r.1 rest s) rest r.1 r.0

abbrev pub step_by : (device of : Bool) → Event → List ℕ → State → Judged
step_by true of e rest s = Open
step_by false false e rest s = Wrong
step_by false true e rest s = followed e rest s

-- an event, by how the report goes on; one of a provider has no lawful answer here
abbrev pub judge_step : Event → List ℕ → State → Judged
judge_step e rest s = step_by (is_line device_line (first_result rest)) (is_of mode.Replay e) e rest s

abbrev pub at_end : Bool → ℕ → Verdict
at_end true done = Lawful
at_end false done = Unlawful done

-- the whole, from where so many events are done; none where the judge gives up
abbrev pub judge_from : ℕ → List Event → List ℕ → State → Option Verdict
judge_from done [] rest s = Some (at_end (is_empty rest) done)
judge_from done (e ∷ es) rest s =
    elim (judge_step e rest s) as (λ _. Option Verdict) [
      | GoesOn a t more ↦ judge_from (done + 1) es more t
      | Wrong ↦ Some (Unlawful (done + 1))
      | Open ↦ Some (Undecided (done + 1))
      | Lost ↦ None
    ]

abbrev pub judge : List Event → List ℕ → ℕ → Option Verdict
judge events report clusters = judge_from 0 events report (start mode.Replay empty_remote clusters)
