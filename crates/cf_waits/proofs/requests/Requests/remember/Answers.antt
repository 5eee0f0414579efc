use Rattle.std.proofs.Common.{subst, sym}
use Rattle.cf_ask_rule.specs.Settled.{IsSettled}
use Rattle.cf_model.specs.Requests.{Waiting}
use Rattle.cf_waits.proofs.requests.Requests.remember.Goals as goal

pub invariant_of-self : goal.invariant_of-self
invariant_of-self c = (c.self.invariant.0, c.self.invariant.1, c.self.invariant.2, subst (λ (s : Waiting). IsSettled c.args.item c.args.sight s.waits s.asks) (sym c.self.view_is) c.requires)
