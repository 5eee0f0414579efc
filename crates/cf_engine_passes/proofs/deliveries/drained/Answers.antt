use Rattle.cf_engine_steps.specs.Answering.{Any}
use Rattle.cf_engine_steps.specs.States.{whole}
use Rattle.cf_base.specs.declared.answers.Shown.TheVariants as shown
use Rattle.cf_engine_steps.proofs.Laws.{returned, then_both}
use Rattle.cf_engine_passes.proofs.Passed.{stops_by}
use Rattle.cf_model.specs.Arrows.{ret}
use Rattle.cf_model.specs.Callbacks.{drain}
use Rattle.cf_engine_passes.proofs.deliveries.drained.Goals as goal

pub returns-in_err-drain : goal.returns-in_err-drain
returns-in_err-drain g c = stops_by _ drain (ret shown.Done) _ _ _ _ c.from_residual.ensures.1 c.in_err-drain.ensures

pub returns : goal.returns
returns g c = then_both _ drain (ret shown.Done) _ _ _ _ _ _ _ _ c.in_ok-drain.ensures (returned (whole g.S.Steps.sense g.R.Remote.told) Any shown.Done (c.drain.new.s, c.drain.new.e))
