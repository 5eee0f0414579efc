use Rattle.cf_ask_rule.specs.Plans.{Planned}
use Rattle.std.proofs.Common.{◌++◌, ◌∙◌, List, Option, ap, refl}
use Rattle.std.specs.Prelude.{filter}
use Rattle.cf_ask_rule.specs.Deeds.{deed_of}
use Rattle.cf_ask_rule.specs.Near.{is_near}
use Rattle.cf_base.specs.declared.ids.Key.{Key}
use Rattle.cf_model.specs.Missing.{Wait}
use Rattle.cf_waits.proofs.Planning.{looked, made_fresh}
use Rattle.cf_waits.proofs.requests.Requests.look_by.Goals as goal

pub step_of-requires : goal.step_of-requires
step_of-requires c = made_fresh c.args.item c.args.sight (deed_of c.args.act) c.deref.result.now c.in_ok-asks.asks.items c.in_ok-plan.plan.made.items c.in_ok-plan.ensures.made

pub returns-clause-planned : goal.returns-clause-planned
returns-clause-planned c = looked c.args.item c.args.sight c.args.sight (deed_of c.args.act) c.in_ok-step.step c.args.self.now _ c.args.begun.now c.deref.result.now c.in_ok-asks.asks.items _
    refl c.self.view_is c.self.invariant.2 c.requires.next c.requires.on
    (c.deref.ensures.value ∙ c.in_ok-waits.ensures ∙ ap (λ (l : List Wait). l ++ c.args.begun.now) c.in_ok-live.ensures)
    (c.in_ok-asks.ensures ∙ ap (λ (k : Option Key). filter (is_near c.args.item k) c.self.inside.asks.asks) c.named_by.ensures)
    (record {
      ended = c.in_ok-plan.ensures.ended;
      left = c.in_ok-plan.ensures.left;
      cancelled = c.in_ok-plan.ensures.cancelled;
      kept = c.in_ok-plan.ensures.kept;
      made = c.in_ok-plan.ensures.made;
    })
    c.in_ok-step.ensures

pub returns-clause-seen : goal.returns-clause-seen
returns-clause-seen c = (ap (λ (p : Planned). p.item) c.in_ok-step.ensures, ap (λ (p : Planned). p.view) c.in_ok-step.ensures)
