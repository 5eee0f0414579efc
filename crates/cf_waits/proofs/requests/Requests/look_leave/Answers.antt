use Rattle.std.proofs.Common.{◌≡◌, ◌∙◌, List, Option, [], ap, refl, subst, sym, true}
use Rattle.std.specs.Prelude.{IfOk, IfSome}
use Rattle.cf_ask_rule.specs.Narrowing.{AreAlike, AreNear, MayPlan, PlansLeave, is_awaited}
use Rattle.cf_base.specs.declared.ids.Key.{Key}
use Rattle.cf_model.specs.Missing.{Wait}
use Rattle.cf_model.specs.Requests.{Live, Waiting}
use Rattle.cf_model.specs.Words.{counting}
use Rattle.cf_waits.proofs.Remembered.{aged_alike, leave_is, may_plan}
use Rattle.cf_waits.specs.Sound.{IsSound}
use Rattle.cf_waits.specs.Steps.{carried}
use Rattle.cf_waits.proofs.requests.Requests.look_leave.Goals as goal

pub returns-in-Some-plan : goal.returns-in-Some-plan
returns-in-Some-plan c =
    let s : Waiting = c.args.self.now in
    let sound : IsSound s = subst (λ (x : Waiting). IsSound x) c.self.view_is c.self.invariant.2 in
    let waits : c.self.inside.waits.waits ≡ s.waits = ap (λ (x : Waiting). x.waits) c.self.view_is in
    let alike : AreAlike c.kept-asks.result.now s.asks = subst (λ (l : List Live). AreAlike c.kept-asks.result.now l) (c.kept-asks.ensures.same.1 ∙ ap (λ (x : Waiting). x.asks) c.self.view_is) (aged_alike c.kept-asks.ensures.same.0 c.kept-asks.result.now) in
    let may : MayPlan c.args.item c.in-Some.seen.now c.args.key s.waits s.asks =
    may_plan c.args.item c.in-Some.seen.now c.args.key s c.in-Some.ensures (c.if-not-is_plain.ensures.asks refl) (c.if-not-is_plain.ensures.waits refl) sound in
    let near : AreNear c.args.item c.args.sight.now c.in-Some-narrowed.change.start c.in-Some-narrowed.change.end c.near-near.result.now s.waits =
    subst (λ (ws : List Wait). AreNear c.args.item c.args.sight.now c.in-Some-narrowed.change.start c.in-Some-narrowed.change.end c.near-near.result.now ws) waits c.near-near.ensures in
    let kept : Option Live = c.in_ok-kept.kept in
    let awaited : is_awaited c.args.item c.args.sight.now s.waits kept ≡ true = ap (λ (ws : List Wait). is_awaited c.args.item c.args.sight.now ws kept) (sym waits) ∙ sym c.is_awaited.ensures ∙ c.if-not-is_awaited.false in
    let plans : PlansLeave c.args.item c.args.sight.now c.args.key (counting c.args.blocks.start c.args.blocks.len) s.waits s.asks c.in-Some-plan.waits.items kept =
    subst (λ o. IfSome o (λ e. PlansLeave c.args.item c.args.sight.now c.args.key (counting c.args.blocks.start c.args.blocks.len) s.waits s.asks e.items kept)) c.in-Some-plan.is
    (subst (λ r. IfOk r (λ o. IfSome o (λ e. PlansLeave c.args.item c.args.sight.now c.args.key (counting c.args.blocks.start c.args.blocks.len) s.waits s.asks e.items kept))) c.in_ok-plan.was
    (subst (λ (k : Option Live). IfOk c.make_leave_plan.result (λ o. IfSome o (λ e. PlansLeave c.args.item c.args.sight.now c.args.key (counting c.args.blocks.start c.args.blocks.len) s.waits s.asks e.items k))) (sym c.in_ok-kept.ensures)
    (c.make_leave_plan.ensures s.waits s.asks near (ap (λ (k : Option Live). is_awaited c.args.item c.args.sight.now s.waits k) (sym c.in_ok-kept.ensures) ∙ awaited) alike may))) in
    ap (λ (k : List Key). carried (record { ended = c.in-Some-plan.waits.items; cancelled = k; dropped = c.dropped_by.result; changed = kept; made = []; item = c.args.item; view = c.args.sight.now }) s) c.new.ensures.items
    ∙ ap (λ (k : Option Key). carried (record { ended = c.in-Some-plan.waits.items; cancelled = []; dropped = k; changed = kept; made = []; item = c.args.item; view = c.args.sight.now }) s) c.dropped_by.ensures
    ∙ leave_is c.args.item c.args.sight.now c.args.key (counting c.args.blocks.start c.args.blocks.len) c.in-Some-plan.waits.items kept s sound plans
