use Rattle.cf_engine_steps.proofs.Laws.{then_both}
use Rattle.cf_engine_passes.proofs.Passed.{stops_by}
use Rattle.cf_engine_passes.specs.Syncs.{synced}
use Rattle.cf_model.specs.Arrows.{noted}
use Rattle.cf_model.specs.Passes.{showing}
use Rattle.cf_engine_passes.proofs.syncs.sync_now.Goals as goal

pub returns-in_err-show_skips : goal.returns-in_err-show_skips
returns-in_err-show_skips g c = stops_by _ (noted showing) synced _ _ _ _ c.from_residual.ensures.1 c.in_err-show_skips.ensures

pub returns : goal.returns
returns g c = then_both _ (noted showing) synced _ _ _ _ _ _ _ _ c.in_ok-show_skips.ensures c.synced.ensures
