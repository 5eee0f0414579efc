use Rattle.cf_engine_steps.proofs.Laws.{then_both}
use Rattle.cf_engine_passes.proofs.Passed.{stops_by}
use Rattle.cf_model.specs.Passes.{ask_feed}
use Rattle.cf_model.specs.Pushes.{push_all}
use Rattle.cf_engine_passes.proofs.passes.asked_and_pushed.Goals as goal

pub returns-in_err-ask_feed : goal.returns-in_err-ask_feed
returns-in_err-ask_feed g c = stops_by _ ask_feed push_all _ _ _ _ c.from_residual.ensures.1 c.in_err-ask_feed.ensures

pub returns : goal.returns
returns g c = then_both _ ask_feed push_all _ _ _ _ _ _ _ _ c.in_ok-ask_feed.ensures c.push_all.ensures
