use Rattle.std.proofs.Common.{◌≡◌, ◌+◌, ◌++◌, ◌∷◌, [], List, refl, sym, ◌∙◌, subst, arith}
use Rattle.std.proofs.lemmas.List.{nil_from_length}
use Rattle.std.specs.Prelude.{IsTrue}
use Rattle.std.specs.List.{list_all}
use Rattle.std.specs.Vec.Iter.{into_iter_items}
use Rattle.cf_base.specs.declared.answers.Answer.{Answer}
use Rattle.cf_base.specs.declared.events.Event.{Event}
use Rattle.cf_model.specs.Events.{is_of}
use Rattle.cf_volume_points.specs.Standing.{clusters_for}
use Rattle.cf_report.specs.Texts.{text, texts}
use Rattle.cf_world_devices.proofs.Adding.{adds_nothing}
use Rattle.cf_world_plays.proofs.Drafted.{drafted_all}
use Rattle.cf_world_plays.proofs.Errs.{err_if}
use Rattle.cf_world_plays.proofs.WorldRuns.{run_lawful}
use Rattle.cf_world_plays.proofs.Traces.{all_left, counted_next, drafted_next, next_event, played_all, played_early, played_front, played_stops}
use Rattle.cf_world_plays.specs.Led.{HasRunOn}
use Rattle.cf_world_plays.specs.Runs.{answers_of}
use Rattle.cf_world_plays.specs.Steps.{AddFails, IsLawfulFrom, SomePlayed}
use Rattle.cf_world_plays.specs.declared.play_errors.PlayError.TheVariants.{OutOfMemory, SinkFault}
use Rattle.cf_world_plays.proofs.plays.play.Goals as goal

pub loop-event-init : goal.loop-event-init
loop-event-init g c =
    let gives = c.into_iter-event-iterator.ensures.into_iter_gives in (
      λ disk first h. record { trace = []; run = h; counted = c.requires.none; parts = gives.0; drafted = record { front = []; parts = sym c.new-waiting.ensures.items; long = refl; short = omega arith; written = adds_nothing (g.K.Sink.held c.args.sink.now) } },
      c.requires.whole,
      subst (λ (es : List Event). IsTrue (list_all (is_of g.A.Actor.acts.mode) es)) (sym gives.0) c.requires.of,
      omega arith,
    )

pub answer-requires-clause-of : goal.answer-requires-clause-of
answer-requires-clause-of g c = (all_left (is_of g.A.Actor.acts.mode) _ _ c.in-Some.event c.loop-event.invariant.2 c.in-Some.ensures.steps.0).0

pub returns-in_err-text-clause-err : goal.returns-in_err-text-clause-err
returns-in_err-text-clause-err g c = λ disk first h.
    let u = c.loop-event.invariant.0 disk first h in
    let all = c.args.events.items in
    let old = g.K.Sink.held c.args.sink.now in
    let now = g.K.Sink.held c.loop-event.sink in
    let lawful = run_lawful g.D.Disk.state g.A.Actor.acts disk first u.trace c.loop-event.world u.run in
    err_if (SomePlayed g.D.Disk.state g.A.Actor.acts disk first all old now c.answer.new.world) c.from_residual.result OutOfMemory c.from_residual.ensures.1
    (played_front (IsLawfulFrom g.A.Actor.acts (clusters_for (g.D.Disk.state disk)) first) all (into_iter_items c.loop-event.event-iterator) u.trace c.loop-event.made c.loop-event.waiting.items old now u.parts lawful u.drafted)

pub returns-in_err-made-clause-err : goal.returns-in_err-made-clause-err
returns-in_err-made-clause-err g c = λ disk first h.
    let u = c.loop-event.invariant.0 disk first h in
    let next = c.answer.new.world in
    let added = c.in_ok-text.ensures.ok in
    let old = g.K.Sink.held c.args.sink.now in
    let new = g.K.Sink.held c.add.new.sink in
    let run = added.3 disk first u.trace u.run in
    let fails = c.in_err-made.ensures.err (texts (answers_of u.trace)) old u.drafted in
    let piece : c.as_slice.result.now ≡ text added.0 = c.as_slice.ensures ∙ added.1 in
    let e = c.in_err-made.field-0.0 in
    err_if (SomePlayed g.D.Disk.state g.A.Actor.acts disk first c.args.events.items old new next) c.from_residual-in_err-made.result e c.from_residual-in_err-made.ensures.1
    (played_early g.D.Disk.state g.A.Actor.acts disk first c.args.events.items (into_iter_items c.loop-event.event-iterator) (into_iter_items c.next.new.self) u.trace next c.in-Some.event added.0 old new e c.in-Some.ensures.steps.0 u.parts run
    (subst (λ x. AddFails (texts (answers_of u.trace)) x old new e) piece fails))

pub loop-event-preserved : goal.loop-event-preserved
loop-event-preserved g c =
    let inv = c.loop-event.invariant in
    let added = c.in_ok-text.ensures.ok in
    let old = g.K.Sink.held c.args.sink.now in
    let new = g.K.Sink.held c.add.new.sink in
    let event = c.in-Some.event in
    let left = into_iter_items c.loop-event.event-iterator in
    let rest = into_iter_items c.next.new.self in
    let first_left = c.in-Some.ensures.steps.0 in
    let piece : c.as_slice.result.now ≡ text added.0 = c.as_slice.ensures ∙ added.1 in (
      λ disk first h.
          let u = inv.0 disk first h in
          let then : List (Event × Answer) = u.trace ++ (event, added.0) ∷ [] in
          record {
            trace = then;
            run = added.3 disk first u.trace u.run;
            counted = counted_next u.trace event added.0 c.answer.new.counts (added.2 (answers_of u.trace) u.counted);
            parts = next_event c.args.events.items left rest u.trace event added.0 first_left u.parts;
            drafted = drafted_next u.trace then event added.0 c.as_slice.result.now c.add.new.waiting.items c.in_ok-made.made old new refl piece (c.in_ok-made.ensures.ok (texts (answers_of u.trace)) old u.drafted);
          },
      c.in_ok-text.ensures.whole,
      (all_left (is_of g.A.Actor.acts.mode) left rest event inv.2 first_left).1,
      omega (arith, inv.3, c.in_ok-made.ensures.never_falls),
    )

pub returns-in_err-write_all-clause-err : goal.returns-in_err-write_all-clause-err
returns-in_err-write_all-clause-err g c = λ disk first h.
    let u = c.loop-event.invariant.0 disk first h in
    let w = c.loop-event.world in
    let all = c.args.events.items in
    let old = g.K.Sink.held c.args.sink.now in
    let new = g.K.Sink.held c.write_all.new.sink in
    let written = rw c.as_slice-2.ensures.value at c.in_err-write_all.ensures.err in
    err_if (SomePlayed g.D.Disk.state g.A.Actor.acts disk first all old new w) c.from_residual-in_err-write_all.result SinkFault c.from_residual-in_err-write_all.ensures.1
    (played_stops (λ trace. HasRunOn g.D.Disk.state g.A.Actor.acts disk first trace w) all (into_iter_items c.loop-event.event-iterator) u.trace c.loop-event.made c.loop-event.waiting.items old (g.K.Sink.held c.loop-event.sink) new u.parts u.run u.drafted written)

pub returns-clause-ok : goal.returns-clause-ok
returns-clause-ok g c = λ disk first h.
    let u = c.loop-event.invariant.0 disk first h in
    let all = c.args.events.items in
    let none : into_iter_items c.loop-event.event-iterator ≡ [] = nil_from_length (into_iter_items c.loop-event.event-iterator) (sym c.loop-event.event-iterator.rest.ok.0 ∙ c.in-None.ensures.steps.0) in
    let written = rw c.as_slice-2.ensures.value at c.in_ok-write_all.ensures.ok in
    record {
      trace = u.trace;
      run = u.run;
      counted = u.counted;
      each = played_all all (into_iter_items c.loop-event.event-iterator) u.trace u.parts none;
      written = drafted_all (texts (answers_of u.trace)) c.loop-event.waiting.items c.loop-event.made (g.K.Sink.held c.args.sink.now) (g.K.Sink.held c.loop-event.sink) (g.K.Sink.held c.write_all.new.sink) u.drafted written;
      short = let l = u.drafted.long in let s = u.drafted.short in omega (arith, l, s);
    }
