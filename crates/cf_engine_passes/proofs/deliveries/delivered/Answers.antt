use Rattle.cf_engine_steps.specs.Answering.{Any}
use Rattle.cf_engine_steps.specs.States.{whole}
use Rattle.cf_engine_steps.proofs.Laws.{stops_first, then_both}
use Rattle.cf_engine_passes.specs.Deliveries.{acted}
use Rattle.cf_model.specs.Arrows.{noted}
use Rattle.cf_model.specs.Passes.{showing}
use Rattle.cf_engine_passes.proofs.deliveries.delivered.Goals as goal

pub returns-in-Ok : goal.returns-in-Ok
returns-in-Ok g c = then_both _ (noted showing) (acted c.args.reply) _ _ _ _ _ _ _ _ c.in-Ok.ensures c.acted.ensures

pub returns-in-Err : goal.returns-in-Err
returns-in-Err g c = stops_first (whole g.S.Steps.sense g.R.Remote.told) Any (noted showing) (acted c.args.reply) (c.args.s.now, c.args.e.now) (c.show_skips.new.s, c.show_skips.new.e) c.in-Err.error c.in-Err.ensures
