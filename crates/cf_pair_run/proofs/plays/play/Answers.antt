use Rattle.std.proofs.Common.{[], drop, refl, sym, subst, arith}
use Rattle.std.proofs.lemmas.List.{drop_all}
use Rattle.cf_pair_run.proofs.PairTraces.{if_err, on_ok, played_all, played_stops, put_less, put_more, rose_later}
use Rattle.cf_pair_run.specs.Led.{HasRun}
use Rattle.cf_pair_run.specs.Runs.{report_of}
use Rattle.cf_pair_run.specs.UnderWay.{SomePlayed}
use Rattle.cf_pair_run.specs.Owned.{is_playable}
use Rattle.cf_world_devices.proofs.Adding.{adds_nothing}
use Rattle.cf_world_plays.proofs.Drafted.{drafted_all}
use Rattle.cf_world_plays.proofs.Traces.{all_there}
use Rattle.cf_pair_run.proofs.plays.play.Goals as goal

pub loop-event-init : goal.loop-event-init
loop-event-init g c = (
  λ first second remote h. record { trace = []; run = h; parts = refl; drafted = record { front = []; parts = sym c.new-waiting.ensures.items; long = refl; short = omega arith; written = adds_nothing (g.K.Sink.held c.args.sink.now) } },
  c.requires,
  omega arith,
)

pub step-next-requires : goal.step-next-requires
step-next-requires g c = all_there is_playable c.args.events.now c.loop-event.event-index c.event-item.result c.loop-event.invariant.1 c.loop-event-test.true c.event-item.is

pub returns-in-Err-clause-err : goal.returns-in-Err-clause-err
returns-in-Err-clause-err g c = λ first second remote h.
    let u = c.loop-event.invariant.0 first second remote h in
    let old = g.K.Sink.held c.args.sink.now in
    put_less g.D.Disk.state g.R.Remote.told first second remote c.args.events.now c.loop-event.event-index c.event-item.result c.event-item.is c.loop-event-test.true u.trace u.parts c.loop-event.world c.step-next.result.0 u.run
    c.step-next.result.1 old (g.K.Sink.held c.put.new.sink) c.in-Err.fail c.step-next.ensures (c.in-Err.ensures.err (report_of u.trace) old u.drafted)

pub loop-event-preserved : goal.loop-event-preserved
loop-event-preserved g c =
    let inv = c.loop-event.invariant in
    let old = g.K.Sink.held c.args.sink.now in (
      λ first second remote h.
          let u = inv.0 first second remote h in
          put_more g.D.Disk.state g.R.Remote.told first second remote c.args.events.now c.loop-event.event-index c.event-item.result c.event-item.is c.loop-event-test.true u.trace u.parts c.loop-event.world c.step-next.result.0 u.run
          c.step-next.result.1 c.put.new.waiting.items c.in-Ok.now old (g.K.Sink.held c.put.new.sink) c.step-next.ensures (c.in-Ok.ensures.ok (report_of u.trace) old u.drafted),
      inv.1,
      omega (arith, inv.2, c.in-Ok.ensures.never_falls),
    )

pub returns-clause-ok : goal.returns-clause-ok
returns-clause-ok g c = λ first second remote h.
    let u = c.loop-event.invariant.0 first second remote h in
    let all = c.args.events.now in
    let i = c.loop-event.event-index in
    on_ok c.put_rest-written.result _ _ (λ written. record {
      trace = u.trace;
      run = u.run;
      each = played_all all (drop i all) u.trace u.parts (drop_all i all c.loop-event-test.false);
      written = drafted_all (report_of u.trace) c.loop-event.waiting.items c.loop-event.made (g.K.Sink.held c.args.sink.now) (g.K.Sink.held c.loop-event.sink) (g.K.Sink.held c.put_rest-written.new.sink) u.drafted written;
      short = let l = u.drafted.long in let s = u.drafted.short in omega (arith, l, s);
    }) c.put_rest-written.ensures.ok

pub returns-clause-err : goal.returns-clause-err
returns-clause-err g c = λ first second remote h.
    let u = c.loop-event.invariant.0 first second remote h in
    let all = c.args.events.now in
    let w = c.loop-event.world in
    let old = g.K.Sink.held c.args.sink.now in
    let new = g.K.Sink.held c.put_rest-written.new.sink in
    if_err c.put_rest-written.result _ _ (λ e k. subst (λ x. SomePlayed g.D.Disk.state g.R.Remote.told first second remote all old new w x) (sym k.0)
    (played_stops (λ trace. HasRun g.D.Disk.state g.R.Remote.told first second remote trace w) all (drop c.loop-event.event-index all) u.trace c.loop-event.made c.loop-event.waiting.items old (g.K.Sink.held c.loop-event.sink) new u.parts u.run u.drafted k.1)) c.put_rest-written.ensures.err

pub returns-clause-fault : goal.returns-clause-fault
returns-clause-fault g c = λ e. rose_later (g.K.Sink.faults c.args.sink.now) (g.K.Sink.faults c.loop-event.sink) (g.K.Sink.faults c.put_rest-written.new.sink) 18446744073709551615 c.loop-event.invariant.2 c.put_rest-written.ensures.never_falls (c.put_rest-written.ensures.fault e)
