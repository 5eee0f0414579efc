use Rattle.std.proofs.Common.{◌≡◌, ◌∙◌, List, ap, refl, subst}
use Rattle.std.specs.Prelude.{IfOk, IfSome}
use Rattle.cf_ask_rule.specs.Narrowing.{AreAlike, AreNear, MayPlan, PlansExpiry}
use Rattle.cf_model.specs.Missing.{Wait}
use Rattle.cf_model.specs.Requests.{Live, Waiting}
use Rattle.cf_waits.proofs.Remembered.{aged_alike, expiry_is, may_plan}
use Rattle.cf_waits.specs.Sound.{IsSound}
use Rattle.cf_waits.proofs.requests.Requests.look_expiry.Goals as goal

pub returns-in-Some-plan : goal.returns-in-Some-plan
returns-in-Some-plan c =
    let s : Waiting = c.args.self.now in
    let sound : IsSound s = subst (λ (x : Waiting). IsSound x) c.self.view_is c.self.invariant.2 in
    let waits : c.self.inside.waits.waits ≡ s.waits = ap (λ (x : Waiting). x.waits) c.self.view_is in
    let alike : AreAlike c.kept-asks.result.now s.asks = subst (λ (l : List Live). AreAlike c.kept-asks.result.now l) (c.kept-asks.ensures.same.1 ∙ ap (λ (x : Waiting). x.asks) c.self.view_is) (aged_alike c.kept-asks.ensures.same.0 c.kept-asks.result.now) in
    let may : MayPlan c.args.item c.in-Some.seen.now c.args.key s.waits s.asks =
    may_plan c.args.item c.in-Some.seen.now c.args.key s c.in-Some.ensures (c.if-not-is_plain.ensures.asks refl) (c.if-not-is_plain.ensures.waits refl) sound in
    let near : AreNear c.args.item c.args.sight.now c.span_around-around.result.start c.span_around-around.result.end c.near-near.result.now s.waits =
    subst (λ (ws : List Wait). AreNear c.args.item c.args.sight.now c.span_around-around.result.start c.span_around-around.result.end c.near-near.result.now ws) waits c.near-near.ensures in
    expiry_is c.args.item c.args.sight.now c.args.key c.in-Some-plan.ends.0.items c.in-Some-plan.ends.1.items s sound
    (subst (λ o. IfSome o (λ p. PlansExpiry c.args.item c.args.sight.now c.args.key s.waits s.asks p.0.items p.1.items)) c.in-Some-plan.is
    (subst (λ r. IfOk r (λ o. IfSome o (λ p. PlansExpiry c.args.item c.args.sight.now c.args.key s.waits s.asks p.0.items p.1.items))) c.in_ok-plan.was (c.make_expiry_plan.ensures s.waits s.asks near alike may)))
