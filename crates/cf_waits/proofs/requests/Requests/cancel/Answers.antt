use Rattle.std.proofs.Common.{◌∙◌, sym}
use Rattle.cf_ask_rule.specs.Sights.{shown}
use Rattle.cf_waits.proofs.Planning.{cancels}
use Rattle.cf_waits.proofs.requests.Requests.cancel.Goals as goal
use Rattle.cf_waits.specs.Told.{wait_of}

pub returns : goal.returns
returns c = cancels (wait_of c.args.self.now.waits c.args.wait) c.in-Some.item c.args.wait (shown c.args.v.now) c.args.self.now c.step.result c.step.new.self (sym c.in-Some.is ∙ c.wait_item.ensures) c.step.ensures
