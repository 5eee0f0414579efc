use Rattle.cf_ask_rule.specs.Deeds.{deed_of}
use Rattle.cf_model.specs.Settling.{settle}
use Rattle.cf_filter_steps.specs.Settled.{IsStepNow}
use Rattle.cf_filter_steps.proofs.Laws.{known}
use Rattle.cf_filter_steps.proofs.ask_steps.settle.Goals as goal

pub returns : goal.returns
returns g c = known g.S.Steps.sense (IsStepNow c.args.item (deed_of c.args.act) c.in_ok-step.step) (settle c.args.item (deed_of c.args.act)) c.args.s.now c.settle_by.new.s c.settle_by.result
    c.in_ok-step.ensures.looks.is (c.settle_by.ensures c.args.item (deed_of c.args.act))
