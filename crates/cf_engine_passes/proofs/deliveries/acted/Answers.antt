use Rattle.cf_engine_steps.proofs.Laws.{then_both}
use Rattle.cf_engine_passes.specs.Deliveries.{drained}
use Rattle.cf_engine_passes.proofs.Passed.{stops_by}
use Rattle.cf_model.specs.Messages.{act_on}
use Rattle.cf_engine_passes.proofs.deliveries.acted.Goals as goal

pub returns-in_err-act_on : goal.returns-in_err-act_on
returns-in_err-act_on g c = stops_by _ (act_on c.args.reply) drained _ _ _ _ c.from_residual.ensures.1 c.in_err-act_on.ensures

pub returns : goal.returns
returns g c = then_both _ (act_on c.args.reply) drained _ _ _ _ _ _ _ _ c.in_ok-act_on.ensures c.drained.ensures
