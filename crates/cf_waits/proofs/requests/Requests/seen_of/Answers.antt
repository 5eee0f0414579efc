use Rattle.std.proofs.Common.{◌≡◌, Option, subst}
use Rattle.std.specs.Prelude.{IfSome}
use Rattle.cf_ask_rule.specs.Settled.{IsSettled}
use Rattle.cf_base.specs.declared.ids.ItemId.{ItemId}
use Rattle.cf_model.specs.Missing.{View}
use Rattle.cf_model.specs.Requests.{Waiting}
use Rattle.cf_waits.proofs.requests.Requests.seen_of.Goals as goal

pub returns-in-Some : goal.returns-in-Some
returns-in-Some c =
    let same : c.in-Some.seen.0 ≡ c.args.item = λ j. record { 0 = c.if-seen-item.true j } in
    subst (λ (i : ItemId). IsSettled i c.in-Some.seen.1 c.args.self.now.waits c.args.self.now.asks) same
    (subst (λ (s : Waiting). IsSettled c.in-Some.seen.0 c.in-Some.seen.1 s.waits s.asks) c.self.view_is
    (subst (λ (o : Option (ItemId × View)). IfSome o (λ p. IsSettled p.0 p.1 c.self.inside.waits.waits c.self.inside.asks.asks)) c.in-Some.is c.self.invariant.3))
