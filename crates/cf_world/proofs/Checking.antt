-- The judgement of a recorded report.
use Rattle.std.proofs.Common.{◌≡◌, ◌<◌, ◌≤◌, ℕ, List, length, refl, sym, subst, inl, inr, arith}
use Rattle.std.specs.Prelude.{Option}
use Rattle.cf_base.specs.declared.events.Event.{Event}
use Rattle.cf_base.specs.declared.policies.Mode.TheVariants.{Replay}
use Rattle.cf_base.specs.declared.statuses.Status.{Status}
use Rattle.cf_base.specs.declared.statuses.Status.TheVariants as status
use Rattle.cf_check_model.specs.Judging.{IsVerdict}
use Rattle.cf_check_model.specs.declared.verdicts.Verdict.{Verdict}
use Rattle.cf_check_model.specs.declared.verdicts.Verdict.TheVariants.{Lawful, Unlawful, Undecided}
use Rattle.cf_io.specs.Moves.{IsLonger, IsQuiet, IsWhole, Rose}
use Rattle.cf_io.specs.declared.faults.ReadError.{ReadError}
use Rattle.cf_io.specs.declared.faults.ReadError.TheVariants as reading
use Rattle.cf_script.specs.Script.{AreEvents, IsScript, event_lines}
use Rattle.cf_world_devices.proofs.Adding.{adds_nothing}
use Rattle.cf_world_devices.proofs.Sources.{long_text, not_quiet, some_text, whole_text}
use Rattle.cf_world.proofs.Parted.{not_both, one_script}
use Rattle.cf_world.specs.Checks.{CheckWrites, HasLine, HasNoMark, IsJudged, IsParted, IsRecording, OfCheck, clusters, most_checked, unmarked_line, verdict_line, verdict_status}
use Rattle.cf_world.specs.Judged.{PutsLine, PutsVerdict}
use Rattle.cf_world_plays.specs.Runs.{WritesRefusal}
use Rattle.cf_world_plays.specs.Steps.{read_status}

-- the statuses of verdicts

abbrev IsOfVerdict : Status → Type 0
IsOfVerdict status.Done = Unit {0}
IsOfVerdict status.Unlawful = Unit {0}
IsOfVerdict status.Undecided = Unit {0}
IsOfVerdict _ = ⊥

of_verdict : (v : Verdict) → IsOfVerdict (verdict_status v)
of_verdict Lawful = tt
of_verdict (Unlawful n) = tt
of_verdict (Undecided n) = tt

of_judged : (text line : List ℕ) (s : Status) → IsJudged text line s → IsOfVerdict s
of_judged text line s h = subst IsOfVerdict (sym h.status_is) (of_verdict h.verdict)

-- by its status the line of a text was written

module _ (text : List ℕ) (old new : Option (List ℕ)) (short : length text ≤ most_checked) where
  puts_line : (line : List ℕ) (said end : Status) → HasLine text line said → PutsLine line said old new end → CheckWrites text old new end
  puts_line line said status.Done h p = (short, line, subst (HasLine text line) (sym p.0) h, p.1)
  puts_line line said status.Unlawful h p = (short, line, subst (HasLine text line) (sym p.0) h, p.1)
  puts_line line said status.Undecided h p = (short, line, subst (HasLine text line) (sym p.0) h, p.1)
  puts_line line said status.BadScript h p = (short, line, subst (HasLine text line) (sym p.0) h, p.1)
  puts_line line said status.SinkFault h p = (short, line, said, h, p)
  puts_line line said status.OutOfMemory h p = inr (short, line, said, h, p)
  puts_line line said status.TooLong h p = absurd (of_judged text line status.TooLong (subst (HasLine text line) (sym p.0) h))
  puts_line line said status.SourceFault h p = absurd (of_judged text line status.SourceFault (subst (HasLine text line) (sym p.0) h))
  puts_line line said status.Usage h p = absurd (of_judged text line status.Usage (subst (HasLine text line) (sym p.0) h))
  puts_line line said status.BadDevice h p = absurd (of_judged text line status.BadDevice (subst (HasLine text line) (sym p.0) h))
  puts_line line said status.DeviceFault h p = absurd (of_judged text line status.DeviceFault (subst (HasLine text line) (sym p.0) h))
  puts_line line said status.BadImage h p = absurd (of_judged text line status.BadImage (subst (HasLine text line) (sym p.0) h))
  puts_line line said status.Damaged h p = absurd (of_judged text line status.Damaged (subst (HasLine text line) (sym p.0) h))

  pub unmarked_written : (end : Status) → HasNoMark text → PutsLine (unmarked_line text) status.BadScript old new end → CheckWrites text old new end
  unmarked_written end none p = puts_line (unmarked_line text) status.BadScript end (inl (none, refl)) p

  has : (events : List Event) (report : List ℕ) (v : Verdict) → IsRecording text events report → IsVerdict events report clusters v → HasLine text (verdict_line v) (verdict_status v)
  has events report Lawful r is = record { events = events; report = report; recording = r; verdict = Lawful; right = is; line_is = refl; status_is = refl }
  has events report (Unlawful n) r is = record { events = events; report = report; recording = r; verdict = Unlawful n; right = is; line_is = refl; status_is = refl }
  has events report (Undecided n) r is = record { events = events; report = report; recording = r; verdict = Undecided n; right = is; line_is = refl; status_is = refl }

  pub verdict_written : (events : List Event) (report : List ℕ) (end : Status) → IsRecording text events report → PutsVerdict events report old new end → CheckWrites text old new end
  verdict_written events report end r (inr (v, is, p)) = puts_line (verdict_line v) (verdict_status v) end (has events report v r is) p
  verdict_written events report end r (inl (is, none)) = subst (CheckWrites text old new) (sym is) (inl none)

  pub refused_written : (script report : List ℕ) (end : Status) → IsParted text script report → WritesRefusal Replay script old new end → CheckWrites text old new end
  refused_written script report status.BadScript parted h = (short, h.line, inr (script, report, parted, h.refusal), h.written)
  refused_written script report status.SinkFault parted h = (short, h.line, status.BadScript, inr (script, report, parted, h.refusal), h.written)
  refused_written script report status.OutOfMemory parted (inl h) = inl h
  refused_written script report status.OutOfMemory parted (inr h) = inr (short, h.line, status.BadScript, inr (script, report, parted, h.refusal), h.written)
  refused_written script report status.Done parted h = absurd h
  refused_written script report status.Unlawful parted h = absurd h
  refused_written script report status.Undecided parted h = absurd h
  refused_written script report status.TooLong parted h = absurd h
  refused_written script report status.SourceFault parted h = absurd h
  refused_written script report status.Usage parted h = absurd h
  refused_written script report status.BadDevice parted h = absurd h
  refused_written script report status.DeviceFault parted h = absurd h
  refused_written script report status.BadImage parted h = absurd h
  refused_written script report status.Damaged parted h = absurd h

-- no script with a report is refused

pub unmarked_bad : (text : List ℕ) → HasNoMark text → (events : List Event) (report : List ℕ) → IsRecording text events report → ⊥
unmarked_bad text none events report r = not_both text r.0 report none r.1

-- the events are those of the one script
pub same_events : (text script report : List ℕ) → IsParted text script report → (events : List Event) (other : List ℕ) → IsRecording text events other → IsScript Replay script events
same_events text script report parted events other (s, p, is) =
    (subst (λ (ls : List (List ℕ)). AreEvents Replay (event_lines ls) events) (sym (one_script text script report s other parted p)) is.0, is.1)

-- what holds of a text that was read

module _ (text : List ℕ) (old new : Option (List ℕ)) (Unwritten : Type 0) (short : length text ≤ most_checked) (a b c d : ℕ) where
  abbrev Quiet : Type 0
  Quiet = IsQuiet a b × IsQuiet c d

  pub of_text : (s : Status) → CheckWrites text old new s → (s ≡ status.BadScript → (events : List Event) (report : List ℕ) → IsRecording text events report → ⊥) → (s ≡ status.SourceFault → ⊥) → (s ≡ status.SinkFault → Rose c d) → OfCheck text old new Unwritten Quiet s
  of_text status.Done h bad read fault = record { writes = h; bad = bad; silent = λ s. absurd s; complete = λ quiet. tt }
  of_text status.Unlawful h bad read fault = record { writes = h; bad = bad; silent = λ s. absurd s; complete = λ quiet. tt }
  of_text status.Undecided h bad read fault = record { writes = h; bad = bad; silent = λ s. absurd s; complete = λ quiet. tt }
  of_text status.BadScript h bad read fault = record { writes = h; bad = bad; silent = λ s. absurd s; complete = λ quiet. tt }
  of_text status.TooLong h bad read fault = absurd (omega (arith, short, h.0))
  of_text status.OutOfMemory h bad read fault = record { writes = h; bad = bad; silent = λ s. absurd s; complete = λ quiet. tt }
  of_text status.SinkFault h bad read fault = record { writes = h; bad = bad; silent = λ s. absurd s; complete = λ quiet. absurd (not_quiet c d (fault refl) quiet.1) }
  of_text status.SourceFault h bad read fault = absurd (read refl)
  of_text status.Usage h bad read fault = absurd h
  of_text status.BadDevice h bad read fault = absurd h
  of_text status.DeviceFault h bad read fault = absurd h
  of_text status.BadImage h bad read fault = absurd h
  of_text status.Damaged h bad read fault = absurd h

-- and of one that was not

module _ (left held : Option (List ℕ)) (Unwritten : Type 0) (unwritten : Unwritten) (a b c : ℕ) where
  pub of_unread : (fail : ReadError) → (fail ≡ reading.TooLong → IsLonger left most_checked) → (fail ≡ reading.Fault → Rose a b)
      → (text : List ℕ) × IsWhole left text × OfCheck text held held Unwritten (IsQuiet a b × IsQuiet c c) (read_status fail)
  of_unread reading.Fault long rose = (
    some_text 0 left,
    whole_text 0 left,
    record {
      writes = adds_nothing held;
      bad = λ e. let z : status.SourceFault ≡ status.BadScript = e in cc;
      silent = λ s. unwritten;
      complete = λ quiet. absurd (not_quiet a b (rose refl) quiet.0);
    },
  )
  of_unread reading.TooLong long rose =
      let more : most_checked < length (some_text 83886091 left) = long_text most_checked left (long refl) in (
        some_text 83886091 left,
        whole_text 83886091 left,
        record {
          writes = (more, adds_nothing held);
          bad = λ e. let z : status.TooLong ≡ status.BadScript = e in cc;
          silent = λ s. unwritten;
          complete = λ quiet. tt;
        },
      )
  of_unread reading.OutOfMemory long rose = (
    some_text 0 left,
    whole_text 0 left,
    record {
      writes = inl (adds_nothing held);
      bad = λ e. let z : status.OutOfMemory ≡ status.BadScript = e in cc;
      silent = λ s. unwritten;
      complete = λ quiet. tt;
    },
  )
