use Rattle.cf_engine_steps.proofs.Laws.{then_both}
use Rattle.cf_engine_passes.proofs.Passed.{stops_by}
use Rattle.cf_engine_passes.specs.Works.{asked_and_pushed}
use Rattle.cf_model.specs.Passes.{settle_all}
use Rattle.cf_engine_passes.proofs.passes.pass.Goals as goal

pub returns-in_err-settle_all : goal.returns-in_err-settle_all
returns-in_err-settle_all g c = stops_by _ settle_all asked_and_pushed _ _ _ _ c.from_residual.ensures.1 c.in_err-settle_all.ensures

pub returns : goal.returns
returns g c = then_both _ settle_all asked_and_pushed _ _ _ _ _ _ _ _ c.in_ok-settle_all.ensures c.asked_and_pushed.ensures
