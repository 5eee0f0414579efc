use Rattle.std.proofs.Common.{◌≡◌, [], subst, sym}
use Rattle.std.specs.Prelude.{IfOk, IfSome}
use Rattle.cf_ask_rule.specs.Deeds.{deed_of}
use Rattle.cf_ask_rule.specs.declared.acts.Act.{Act}
use Rattle.cf_model.specs.Asks.{step_of}
use Rattle.cf_waits.specs.Steps.{carried}
use Rattle.cf_waits.proofs.requests.Requests.look_changed.Goals as goal

pub returns-in-Leaves : goal.returns-in-Leaves
returns-in-Leaves c = subst (λ (a : Act). IfOk c.look_leave.result (λ r. IfSome r (λ e. carried (record { ended = e.waits.items; cancelled = e.cancelled.items; dropped = e.dropped; changed = e.changed; made = []; item = c.args.item; view = c.args.sight.now }) c.args.self.now ≡ step_of c.args.item c.args.sight.now (deed_of a) c.args.self.now)))
    (sym c.in-Leaves.is) c.look_leave.ensures

pub returns-in-Expires : goal.returns-in-Expires
returns-in-Expires c = subst (λ (a : Act). IfOk c.look_expiry.result (λ r. IfSome r (λ e. carried (record { ended = e.waits.items; cancelled = e.cancelled.items; dropped = e.dropped; changed = e.changed; made = []; item = c.args.item; view = c.args.sight.now }) c.args.self.now ≡ step_of c.args.item c.args.sight.now (deed_of a) c.args.self.now)))
    (sym c.in-Expires.is) c.look_expiry.ensures
