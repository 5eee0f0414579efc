use Rattle.std.proofs.Common.{Option, subst}
use Rattle.std.specs.Prelude.{IfSome}
use Rattle.cf_ask_rule.specs.Settled.{IsSettled}
use Rattle.cf_base.specs.declared.ids.ItemId.{ItemId}
use Rattle.cf_model.specs.Missing.{View}
use Rattle.cf_model.specs.Requests.{Waiting}
use Rattle.cf_waits.proofs.requests.Requests.is_settled.Goals as goal

pub returns : goal.returns
returns c = λ t. subst (λ (s : Waiting). IsSettled c.args.item c.args.sight.now s.waits s.asks) c.self.view_is
    (subst (λ (o : Option (ItemId × View)). IfSome o (λ p. IsSettled p.0 p.1 c.self.inside.waits.waits c.self.inside.asks.asks)) (c.is_seen.ensures t) c.self.invariant.3)
