use Rattle.std.proofs.Common.{subst}
use Rattle.cf_base.specs.declared.ids.ItemId.{ItemId}
use Rattle.cf_ask_rule.specs.Deeds.{deed_of}
use Rattle.cf_ask_rule.specs.Sights.{shown}
use Rattle.cf_model.specs.Asks.{step_of}
use Rattle.cf_waits.proofs.requests.Requests.step_at.Goals as goal
use Rattle.cf_waits.specs.Steps.{Steps}

pub returns : goal.returns
returns c = subst (λ (i : ItemId). Steps c.args.limits (step_of i (shown c.args.v.now) (deed_of c.args.act) c.args.self.now) c.args.self.now c.step.result c.step.new.self) c.item_at-item.ensures c.step.ensures
