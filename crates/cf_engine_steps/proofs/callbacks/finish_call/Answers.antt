use Rattle.std.specs.Prelude.{Ok}
use Rattle.cf_engine_steps.specs.Answering.{Any}
use Rattle.cf_engine_steps.specs.States.{whole}
use Rattle.cf_engine_steps.proofs.DrainParts.{quiet_finish}
use Rattle.cf_engine_steps.proofs.Laws.{stops_first, then_both}
use Rattle.cf_engine_steps.proofs.Lifting.{lift_any}
use Rattle.cf_model.specs.Callbacks.{drain, finish}
use Rattle.cf_model.specs.State.{in_filter}
use Rattle.cf_engine_steps.proofs.callbacks.finish_call.Goals as goal

pub returns-in-Ok : goal.returns-in-Ok
returns-in-Ok g c = then_both _ drain (in_filter (finish c.args.shown)) _ _ _ _ _ _ _ _ c.in-Ok.ensures
    (lift_any g.S.Steps.sense g.R.Remote.told (finish c.args.shown) c.drain.new.s c.end_call.new.self c.drain.new.e (Ok c.end_call.result) (quiet_finish c.args.shown) c.end_call.ensures)

pub returns-in-Err : goal.returns-in-Err
returns-in-Err g c = stops_first (whole g.S.Steps.sense g.R.Remote.told) Any drain (in_filter (finish c.args.shown)) (c.args.s.now, c.args.e.now) (c.drain.new.s, c.drain.new.e) c.in-Err.error c.in-Err.ensures
