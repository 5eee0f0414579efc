use Rattle.cf_engine_steps.specs.Answering.{Any}
use Rattle.cf_engine_steps.specs.States.{whole}
use Rattle.cf_model.specs.Callbacks.{drain}
use Rattle.cf_engine_steps.proofs.DrainParts.{drained_all, drained_cut}
use Rattle.cf_engine_steps.proofs.Laws.{with_err}
use Rattle.cf_engine_steps.proofs.callbacks.drain.Goals as goal

pub returns-in_err-drain : goal.returns-in_err-drain
returns-in_err-drain g c = with_err (whole g.S.Steps.sense g.R.Remote.told) Any drain (c.args.s.now, c.args.e.now) (c.drain.new.s, c.drain.new.self) c.in_err-drain.field-0.0 c.from_residual.result c.from_residual.ensures.1
    (drained_cut g.R.Remote.told g.S.Steps.sense c.args.s.now c.drain.new.s c.args.e.now c.drain.new.self c.in_err-drain.field-0.0 c.drain.ensures.rest c.in_err-drain.ensures.drains)

pub returns : goal.returns
returns g c = drained_all g.R.Remote.told g.S.Steps.sense c.args.s.now c.drain.new.s c.args.e.now c.drain.new.self c.in_ok-drain.field-0 c.drain.ensures.rest c.in_ok-drain.ensures.drains
