use Rattle.std.proofs.Common.{List, subst}
use Rattle.std.specs.List.{AllByRecursion}
use Rattle.std.specs.Prelude.{option_copied}
use Rattle.cf_base.specs.declared.waits.Cause.{Cause}
use Rattle.cf_ask_rule.proofs.Apart.{apart_alike}
use Rattle.cf_ask_rule.proofs.Changed.{expiry_plan}
use Rattle.cf_ask_rule.proofs.changed_plans.make_expiry_plan.Goals as goal
use Rattle.cf_ask_rule.specs.Narrowing.{IsWithin}
use Rattle.cf_model.specs.Missing.{Wait}

pub returns : goal.returns
returns c = λ waits ys nears alike may. expiry_plan c.args.item c.args.old.now c.args.v.now c.args.change.start c.args.change.end c.reach_of-reach.result.start c.reach_of-reach.result.end c.args.around.start c.args.around.end c.args.key
    waits c.args.near.now c.args.asks.now ys (option_copied c.args.own) c.in_ok-ended.ended.items c.in_ok-cancelled.cancelled.items c.requires.narrows c.size-size.ensures.small c.reach_of-reach.ensures.start c.reach_of-reach.ensures.end
    (subst (λ (l : List (Wait × Cause)). AllByRecursion (λ e. IsWithin c.args.v.now c.reach_of-reach.result.start c.reach_of-reach.result.end e.0) l) c.deref.ensures.value c.reach_of-reach.ensures.within)
    (c.may_touch.ensures c.if-may_touch.false (apart_alike c.args.item c.args.asks.now ys alike may.apart) c.requires.own) c.requires.own c.in_ok-cancelled.ensures c.in_ok-ended.ensures c.requires.start c.requires.end c.requires.around nears alike may
