-- How a run ends.
use Rattle.std.proofs.Common.{ℕ, ◌≤◌, List, [], ◌∷◌, ◌++◌, length, Option, inl, inr, refl, Result, Ok, Err}
use Rattle.std.specs.Prelude.{◌≢◌, IfErr, OnOk}
use Rattle.cf_base.specs.declared.answers.Answer.{Answer}
use Rattle.cf_base.specs.declared.events.Event.{Event}
use Rattle.cf_base.specs.declared.policies.Mode.{Mode}
use Rattle.cf_base.specs.declared.statuses.Status.{Status}
use Rattle.cf_base.specs.declared.statuses.Status.TheVariants.{Done, Usage, BadScript, SourceFault, SinkFault, BadDevice, OutOfMemory, TooLong, DeviceFault, BadImage, Unlawful, Undecided, Damaged}
use Rattle.cf_disk.specs.Disk.{State as Disk}
use Rattle.cf_gen.specs.declared.summaries.Counts.{Counts}
use Rattle.cf_io.specs.Moves.{AddsFront}
use Rattle.cf_script.specs.FailEvents.{IsCause}
use Rattle.cf_script.specs.Script.{IsScript, lines_of}
use Rattle.cf_script.specs.declared.script_errors.ScriptError.{ScriptError}
use Rattle.cf_script.specs.declared.script_errors.ScriptError.TheVariants as fails
use Rattle.cf_filter_events.specs.Actors.{Acts}
use Rattle.cf_filter_events.specs.declared.places.Acting.{Acting}
use Rattle.cf_world_plays.specs.Led.{HasRunOn, LeavesActor}
use Rattle.cf_world_plays.specs.Runs.{IsRefusal, PlaysFront, PlaysLong, RefusesFront, StopsEarly, Writes, WritesRefusal, fail_line, most_script}
use Rattle.cf_world_plays.specs.Steps.{AllPlayed, SomePlayed, WritesBy, early_status, play_status}
use Rattle.cf_world_plays.specs.declared.play_errors.PlayError.{PlayError}
use Rattle.cf_world_plays.specs.declared.play_errors.PlayError.TheVariants as plays

refused_front : (m : Mode) (text : List ℕ) (old new : Option (List ℕ)) (fail : ScriptError) → IsCause m (lines_of text) fail → fail ≢ fails.OutOfMemory → AddsFront old new (fail_line fail) → RefusesFront m text old new
refused_front m text old new fail why other written =
    let refusal : IsRefusal m text (fail_line fail) = record { fail = fail; why = why; not_memory = other; is = refl } in
    record { line = fail_line fail; refusal = refusal; written = written }

-- a front of the line of a refusal was written
pub refuse_early : (m : Mode) (text : List ℕ) (old new : Option (List ℕ)) (fail : ScriptError) (p : PlayError) → IsCause m (lines_of text) fail → fail ≢ fails.OutOfMemory → p ≢ plays.TooLong → AddsFront old new (fail_line fail) → WritesRefusal m text old new (early_status p)
refuse_early m text old new fail plays.SinkFault why other short written = refused_front m text old new fail why other written
refuse_early m text old new fail plays.OutOfMemory why other short written = inr (refused_front m text old new fail why other written)
refuse_early m text old new fail plays.TooLong why other short written = absurd (short refl)

-- what is written of a script that is not read, among what a run writes
pub refusal_written : (Said Lawful : List (Event × Answer) → Type 0) (Kept : Type 0) (m : Mode) (text : List ℕ) (old new : Option (List ℕ)) (s : Status) → Kept → WritesRefusal m text old new s → Writes Said Lawful Kept m text old new s
refusal_written Said Lawful Kept m text old new BadScript kept h = h
refusal_written Said Lawful Kept m text old new SinkFault kept h = inl (h, kept)
refusal_written Said Lawful Kept m text old new OutOfMemory kept (inl h) = inl h
refusal_written Said Lawful Kept m text old new OutOfMemory kept (inr h) = inr (inl (h, kept))
refusal_written Said Lawful Kept m text old new Done kept h = absurd h
refusal_written Said Lawful Kept m text old new Usage kept h = absurd h
refusal_written Said Lawful Kept m text old new SourceFault kept h = absurd h
refusal_written Said Lawful Kept m text old new TooLong kept h = absurd h
refusal_written Said Lawful Kept m text old new BadDevice kept h = absurd h
refusal_written Said Lawful Kept m text old new DeviceFault kept h = absurd h
refusal_written Said Lawful Kept m text old new BadImage kept h = absurd h
refusal_written Said Lawful Kept m text old new Unlawful kept h = absurd h
refusal_written Said Lawful Kept m text old new Undecided kept h = absurd h
refusal_written Said Lawful Kept m text old new Damaged kept h = absurd h

-- what is said of the trace of what was played is all that changes
front_said : (P Q : List (Event × Answer) → Type 0) (events : List Event) (old new : Option (List ℕ)) → ((trace : List (Event × Answer)) → P trace → Q trace) → PlaysFront P events old new → PlaysFront Q events old new
front_said P Q events old new f h = record { trace = h.trace; more = h.more; first = h.first; said = f h.trace h.said; written = h.written }

pub long_said : (P Q : List (Event × Answer) → Type 0) (events : List Event) (old new : Option (List ℕ)) → ((trace : List (Event × Answer)) → P trace → Q trace) → PlaysLong P events old new → PlaysLong Q events old new
long_said P Q events old new f h =
    record { trace = h.trace; event = h.event; answer = h.answer; more = h.more; first = h.first; said = f (h.trace ++ (h.event, h.answer) ∷ []) h.said; written = h.written; passes = h.passes }

module _ (P Q F G : List (Event × Answer) → Type 0) (m : Mode) (text : List ℕ) (old new : Option (List ℕ)) (said : (trace : List (Event × Answer)) → P trace → Q trace) (lawful : (trace : List (Event × Answer)) → F trace → G trace) (K L : Type 0) (kept : K → L) where
  early_said : (X Y : List (Event × Answer) → Type 0) → ((trace : List (Event × Answer)) → X trace → Y trace) → StopsEarly X K m text old new → StopsEarly Y L m text old new
  early_said X Y f (inl h) = inl (h.0, kept h.1)
  early_said X Y f (inr h) = inr (record { events = h.events; spelled = h.spelled; played = front_said X Y h.events old new f h.played })

  -- what was written says as much of another trace
  pub writes_said : (s : Status) → Writes P F K m text old new s → Writes Q G L m text old new s
  writes_said Done h = record { events = h.events; spelled = h.spelled; played = record { trace = h.played.trace; each = h.played.each; said = said h.played.trace h.played.said; written = h.played.written; short = h.played.short } }
  writes_said BadScript h = h
  writes_said SinkFault h = early_said P Q said h
  writes_said OutOfMemory (inl h) = inl h
  writes_said OutOfMemory (inr h) = inr (early_said F G lawful h)
  writes_said Usage h = h
  writes_said SourceFault h = h
  writes_said TooLong (inl h) = inl (h.0, h.1, kept h.2)
  writes_said TooLong (inr h) = inr (h.0, record { events = h.1.events; spelled = h.1.spelled; played = long_said P Q h.1.events old new said h.1.played })
  writes_said BadDevice h = h
  writes_said DeviceFault h = h
  writes_said BadImage h = absurd h
  writes_said Unlawful h = absurd h
  writes_said Undecided h = absurd h
  writes_said Damaged h = absurd h

module _ {D A : Type 0} (state : D → Disk) (W : Acts A) where
  -- what was written of a script that was read, by how its events went
  pub played_written : (disk back : D) (first actor : A) (text : List ℕ) (events : List Event) (old new : Option (List ℕ)) (w : Option (Acting D A)) (counts : Counts) (r : Result (Unit {0}) PlayError) → IsScript W.mode text events → length text ≤ most_script → OnOk r (AllPlayed state W disk first events old new w counts)
      → IfErr r (SomePlayed state W disk first events old new w) → ((trace : List (Event × Answer)) → HasRunOn state W disk first trace w → LeavesActor state W disk first trace back actor) → WritesBy state W disk first text old new (play_status r) back actor
  played_written disk back first actor text events old new w counts (Ok u) script short all some leads =
      record { events = events; spelled = script; played = record { trace = all.trace; each = all.each; said = leads all.trace all.run; written = all.written; short = all.short } }
  played_written disk back first actor text events old new w counts (Err plays.SinkFault) script short all some leads =
      inr (record { events = events; spelled = script; played = front_said (λ trace. HasRunOn state W disk first trace w) (λ trace. LeavesActor state W disk first trace back actor) events old new leads some })
  played_written disk back first actor text events old new w counts (Err plays.OutOfMemory) script short all some leads = inr (inr (record { events = events; spelled = script; played = some }))
  played_written disk back first actor text events old new w counts (Err plays.TooLong) script short all some leads =
      inr (short, record { events = events; spelled = script; played = long_said (λ trace. HasRunOn state W disk first trace w) (λ trace. LeavesActor state W disk first trace back actor) events old new leads some })
