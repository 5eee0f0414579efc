-- How a run of two devices ends.
use Rattle.std.proofs.Common.{◌≡◌, ℕ, ◌≤◌, ◌<◌, List, [], ◌∷◌, ◌++◌, append-nil, length, Option, inl, inr, refl, ◌∙◌, Result, Ok, Err, arith}
use Rattle.std.specs.Prelude.{◌≢◌, IfErr, OnOk}
use Rattle.cf_base.specs.declared.statuses.Status.{Status}
use Rattle.cf_base.specs.declared.statuses.Status.TheVariants as status
use Rattle.cf_disk.specs.Disk.{State as Disk}
use Rattle.cf_io.specs.Moves.{Adds, AddsFront, IsLonger, IsQuiet, IsWhole, Rose}
use Rattle.cf_io.specs.declared.faults.ReadError.{ReadError}
use Rattle.cf_io.specs.declared.faults.ReadError.TheVariants as reading
use Rattle.cf_pair_events.specs.declared.events.PairEvent.{PairEvent}
use Rattle.cf_pair_run.specs.Led.{HasRun, Leads}
use Rattle.cf_pair_run.specs.Runs.{AreFit, IsRefusal, OfText, Refuses, Trace, WritesOf, events_of}
use Rattle.cf_pair_run.specs.UnderWay.{AllPlayed, SomePlayed, WritesRefusal}
use Rattle.cf_pair_script.specs.Causes.{IsCause}
use Rattle.cf_pair_script.specs.PairScript.{IsScript}
use Rattle.cf_pair_run.specs.declared.worlds.PairWorld.{PairWorld}
use Rattle.cf_remote.specs.Told.{Told}
use Rattle.cf_script.specs.Script.{lines_of}
use Rattle.cf_script.specs.declared.script_errors.ScriptError.{ScriptError}
use Rattle.cf_script.specs.declared.script_errors.ScriptError.TheVariants as fails
use Rattle.cf_world_plays.proofs.OfTexts.{short_enough}
use Rattle.cf_world_devices.proofs.Sources.{long_text, not_quiet, some_text, whole_text}
use Rattle.cf_world_plays.specs.Runs.{IsAfterReading, IsComplete, IsUnfit, fail_line, most_script}
use Rattle.cf_world_plays.specs.Steps.{early_status, play_status, read_status}
use Rattle.cf_world_plays.specs.declared.play_errors.PlayError.{PlayError}
use Rattle.cf_world_plays.specs.declared.play_errors.PlayError.TheVariants as plays

-- refusals

refusal_of : (text : List ℕ) (fail : ScriptError) → IsCause (lines_of text) fail → fail ≢ fails.OutOfMemory → IsRefusal text (fail_line fail)
refusal_of text fail why other = record { fail = fail; why = why; not_memory = other; is = refl }

pub refused : (text : List ℕ) (old new : Option (List ℕ)) (fail : ScriptError) → IsCause (lines_of text) fail → fail ≢ fails.OutOfMemory → Adds old new (fail_line fail) → Refuses text old new
refused text old new fail why other written = (fail_line fail, refusal_of text fail why other, written)

pub refuse_early : (text : List ℕ) (old new : Option (List ℕ)) (fail : ScriptError) (p : PlayError) → IsCause (lines_of text) fail → fail ≢ fails.OutOfMemory → p ≢ plays.TooLong → AddsFront old new (fail_line fail) → WritesRefusal text old new (early_status p)
refuse_early text old new fail plays.SinkFault why other short written = (fail_line fail, refusal_of text fail why other, written)
refuse_early text old new fail plays.OutOfMemory why other short written = inr (fail_line fail, refusal_of text fail why other, written)
refuse_early text old new fail plays.TooLong why other short written = absurd (short refl)

module _ {D R : Type 0} (state : D → Disk) (told : R → Told) (first second : D) (remote : R) (text : List ℕ) (old new : Option (List ℕ)) where
  -- what is written of a script that is not read
  pub refusal_written : (s : Status) → WritesRefusal text old new s → WritesOf state told first second remote text old new s first second remote
  refusal_written status.BadScript h = (h, (refl, refl, refl))
  refusal_written status.SinkFault h = inl (h, (refl, refl, refl))
  refusal_written status.OutOfMemory (inl h) = inl h
  refusal_written status.OutOfMemory (inr h) = inr (inl (h, (refl, refl, refl)))
  refusal_written status.Done h = absurd h
  refusal_written status.Usage h = absurd h
  refusal_written status.SourceFault h = absurd h
  refusal_written status.TooLong h = absurd h
  refusal_written status.BadDevice h = absurd h
  refusal_written status.DeviceFault h = absurd h
  refusal_written status.BadImage h = absurd h
  refusal_written status.Unlawful h = absurd h
  refusal_written status.Undecided h = absurd h
  refusal_written status.Damaged h = absurd h

  -- what was written of a script that was read, by how its events went
  pub played_written : (a b : D) (after : R) (events : List PairEvent) (w : PairWorld D R) (r : Result (Unit {0}) PlayError) → IsScript text events → length text ≤ most_script → OnOk r (AllPlayed state told first second remote events old new w)
      → IfErr r (SomePlayed state told first second remote events old new w) → ((trace : Trace) → HasRun state told first second remote trace w → Leads state told first second remote trace a b after) → WritesOf state told first second remote text old new (play_status r) a b after
  played_written a b after events w (Ok u) script short all some leads = record {
    trace = all.trace;
    played = record { events = events; spelled = script; first = append-nil (events_of all.trace) ∙ all.each; said = leads all.trace all.run };
    written = all.written;
    short = all.short;
  }
  played_written a b after events w (Err plays.SinkFault) script short all some leads =
      inr (record { trace = some.trace; more = some.more; played = record { events = events; spelled = script; first = some.first; said = leads some.trace some.said }; written = some.written })
  played_written a b after events w (Err plays.OutOfMemory) script short all some leads =
      inr (inr (record { trace = some.trace; more = some.more; played = record { events = events; spelled = script; first = some.first; said = some.said }; written = some.written }))
  played_written a b after events w (Err plays.TooLong) script short all some leads =
      inr (
        short,
        record {
          trace = some.trace;
          event = some.event;
          answer = some.answer;
          more = some.more;
          played = record { events = events; spelled = script; first = some.first; said = leads (some.trace ++ (some.event, some.answer) ∷ []) some.said };
          written = some.written;
          passes = some.passes;
        },
      )

  -- nothing was written of a text that was not read
  unread : (fail : ReadError) → (fail ≡ reading.TooLong → most_script < length text) → Adds old new [] → WritesOf state told first second remote text old new (read_status fail) first second remote
  unread reading.Fault long h = (h, (refl, refl, refl))
  unread reading.TooLong long h = inl (long refl, h, (refl, refl, refl))
  unread reading.OutOfMemory long h = inl h

module _ {D R : Type 0} (state : D → Disk) (told : R → Told) (first second : D) (remote : R) (old new : Option (List ℕ)) (Unwritten : Type 0) (m n k l : ℕ) where
  abbrev Quiet : Type 0
  Quiet = IsQuiet m n × IsQuiet k l

  -- the text was read
  pub read_text : (text : List ℕ) (s : Status) (a b : D) (after : R) → length text ≤ most_script → IsAfterReading s → WritesOf state told first second remote text old new s a b after → (s ≡ status.BadScript → (events : List PairEvent) → IsScript text events → ⊥)
      → ((AreFit (state first) (state second) → ⊥) → (events : List PairEvent) → IsScript text events → IsUnfit s) → (IsQuiet k l → AreFit (state first) (state second) → (events : List PairEvent) → IsScript text events → IsComplete s)
      → OfText state told first second remote text old new Unwritten Quiet s a b after
  read_text text s a b after short read writes bad unfit complete = record {
    writes = writes;
    lengths = short_enough s text short read;
    bad = bad;
    unfit = λ none le. unfit none;
    long = λ e lt. absurd (omega (arith, short, lt));
    complete = λ quiet fit le. complete quiet.1 fit;
  }

  -- it was not
  pub unread_text : (left : Option (List ℕ)) (fail : ReadError) → (fail ≡ reading.TooLong → IsLonger left most_script) → (fail ≡ reading.Fault → Rose m n) → Adds old new [] → Unwritten
      → (text : List ℕ) × IsWhole left text × OfText state told first second remote text old new Unwritten Quiet (read_status fail) first second remote
  unread_text left reading.Fault long rose adds none = (
    some_text 0 left,
    whole_text 0 left,
    record {
      writes = unread state told first second remote (some_text 0 left) old new reading.Fault (λ e. let z : reading.Fault ≡ reading.TooLong = e in absurd cc) adds;
      lengths = tt;
      bad = λ e. let z : status.SourceFault ≡ status.BadScript = e in cc;
      unfit = λ none le events built. tt;
      long = λ e. let z : status.SourceFault ≡ status.TooLong = e in cc;
      complete = λ quiet. absurd (not_quiet m n (rose refl) quiet.0);
    },
  )
  unread_text left reading.TooLong long rose adds none =
      let more : most_script < length (some_text 16777217 left) = long_text most_script left (long refl) in (
        some_text 16777217 left,
        whole_text 16777217 left,
        record {
          writes = unread state told first second remote (some_text 16777217 left) old new reading.TooLong (λ e. more) adds;
          lengths = tt;
          bad = λ e. let z : status.TooLong ≡ status.BadScript = e in cc;
          unfit = λ off le. absurd (omega (arith, more, le));
          long = λ e lt. none;
          complete = λ quiet fit le events built. tt;
        },
      )
  unread_text left reading.OutOfMemory long rose adds none = (
    some_text 0 left,
    whole_text 0 left,
    record {
      writes = unread state told first second remote (some_text 0 left) old new reading.OutOfMemory (λ e. let z : reading.OutOfMemory ≡ reading.TooLong = e in absurd cc) adds;
      lengths = tt;
      bad = λ e. let z : status.OutOfMemory ≡ status.BadScript = e in cc;
      unfit = λ off le events built. tt;
      long = λ e. let z : status.OutOfMemory ≡ status.TooLong = e in cc;
      complete = λ quiet fit le events built. tt;
    },
  )
