use Rattle.cf_engine_steps.proofs.Laws.{then_both}
use Rattle.cf_engine_passes.proofs.Passed.{stops_by}
use Rattle.cf_engine_passes.specs.Syncs.{drained_and_counted}
use Rattle.cf_model.specs.Passes.{sync_passes}
use Rattle.cf_engine_passes.proofs.syncs.synced.Goals as goal

pub returns-in_err-sync_passes : goal.returns-in_err-sync_passes
returns-in_err-sync_passes g c = stops_by _ sync_passes drained_and_counted _ _ _ _ c.from_residual.ensures.1 c.in_err-sync_passes.ensures

pub returns : goal.returns
returns g c = then_both _ sync_passes drained_and_counted _ _ _ _ _ _ _ _ c.in_ok-sync_passes.ensures c.drained_and_counted.ensures
