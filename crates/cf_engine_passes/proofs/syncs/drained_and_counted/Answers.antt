use Rattle.cf_engine_steps.proofs.Laws.{then_both}
use Rattle.cf_engine_passes.proofs.Passed.{stops_by}
use Rattle.cf_model.specs.Callbacks.{drain}
use Rattle.cf_model.specs.Passes.{show_unsettled}
use Rattle.cf_engine_passes.proofs.syncs.drained_and_counted.Goals as goal

pub returns-in_err-drain : goal.returns-in_err-drain
returns-in_err-drain g c = stops_by _ drain show_unsettled _ _ _ _ c.from_residual.ensures.1 c.in_err-drain.ensures

pub returns : goal.returns
returns g c = then_both _ drain show_unsettled _ _ _ _ _ _ _ _ c.in_ok-drain.ensures c.show_unsettled.ensures
