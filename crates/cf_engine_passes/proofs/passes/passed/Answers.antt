use Rattle.cf_engine_steps.proofs.Laws.{then_both}
use Rattle.cf_engine_passes.proofs.Passed.{stops_by}
use Rattle.cf_engine_passes.specs.Deliveries.{drained}
use Rattle.cf_model.specs.Passes.{pass}
use Rattle.cf_engine_passes.proofs.passes.passed.Goals as goal

pub returns-in_err-pass : goal.returns-in_err-pass
returns-in_err-pass g c = stops_by _ pass drained _ _ _ _ c.from_residual.ensures.1 c.in_err-pass.ensures

pub returns : goal.returns
returns g c = then_both _ pass drained _ _ _ _ _ _ _ _ c.in_ok-pass.ensures c.drained.ensures
