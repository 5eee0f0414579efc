use Rattle.std.proofs.Common.{◌≡◌, ◌∙◌, [], ap, subst}
use Rattle.std.specs.Prelude.{IfOk, IfSome}
use Rattle.cf_ask_rule.specs.Deeds.{deed_of}
use Rattle.cf_ask_rule.specs.Plans.{Planned}
use Rattle.cf_model.specs.Asks.{step_of}
use Rattle.cf_model.specs.Missing.{View}
use Rattle.cf_model.specs.Requests.{Waiting}
use Rattle.cf_waits.proofs.Planning.{with_none}
use Rattle.cf_waits.specs.Steps.{carried}
use Rattle.cf_waits.proofs.requests.Requests.look.Goals as goal

pub returns-in-Some-clause-planned : goal.returns-in-Some-clause-planned
returns-in-Some-clause-planned c =
    ap (λ (p : Planned). carried p c.args.self.now) c.step.ensures
    ∙ subst (λ o. IfSome o (λ e. carried (record { ended = e.waits.items; cancelled = e.cancelled.items; dropped = e.dropped; changed = e.changed; made = []; item = c.args.item; view = c.in_ok-sight.sight }) c.args.self.now ≡ step_of c.args.item c.in_ok-sight.sight (deed_of c.args.act) c.args.self.now)) c.in-Some.is c.in_ok-changed.ensures
    ∙ ap (λ (v : View). step_of c.args.item v (deed_of c.args.act) c.args.self.now) c.in_ok-sight.ensures

pub returns-in-None-clause-planned : goal.returns-in-None-clause-planned
returns-in-None-clause-planned c =
    subst (λ (v : View). IfOk c.look_by.result (λ p. carried p c.args.self.now ≡ step_of c.args.item v (deed_of c.args.act) c.args.self.now)) c.in_ok-sight.ensures
    (subst (λ (s : Waiting). IfOk c.look_by.result (λ p. carried p s ≡ step_of c.args.item c.in_ok-sight.sight (deed_of c.args.act) s)) (with_none c.args.self.now) c.look_by.ensures.planned)
