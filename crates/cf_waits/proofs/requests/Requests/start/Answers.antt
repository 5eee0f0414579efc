use Rattle.std.proofs.Common.{Bool, Some, None, cond, subst}
use Rattle.cf_ask_rule.specs.Sights.{shown}
use Rattle.cf_model.specs.Asks.{step_of}
use Rattle.cf_model.specs.Requests.{Nothing}
use Rattle.cf_waits.proofs.requests.Requests.start.Goals as goal
use Rattle.cf_waits.specs.Steps.{Begins, begun_id, limits_by, tried}

pub returns : goal.returns
returns c = subst (λ (b : Bool). Begins (limits_by c.args.kind) (cond b (Some (begun_id 1 c.args.self.now)) None) (step_of c.args.item (shown c.args.v.now) Nothing (tried c.args.kind c.args.item c.args.handle c.args.span b c.args.self.now)) c.args.self.now c.start_beside.result c.start_beside.new.self) c.is_beside-beside.ensures c.start_beside.ensures
