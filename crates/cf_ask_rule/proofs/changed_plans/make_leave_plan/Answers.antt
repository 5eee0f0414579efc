use Rattle.std.proofs.Common.{List, subst, sym}
use Rattle.std.specs.List.{AllByRecursion}
use Rattle.cf_base.specs.declared.waits.Cause.{Cause}
use Rattle.cf_ask_rule.proofs.Apart.{apart_alike}
use Rattle.cf_ask_rule.proofs.Changed.{leave_plan}
use Rattle.cf_ask_rule.proofs.changed_plans.make_leave_plan.Goals as goal
use Rattle.cf_ask_rule.specs.Narrowing.{IsWithin}
use Rattle.cf_model.specs.Missing.{Wait}
use Rattle.cf_model.specs.Words.{counting}

pub returns : goal.returns
returns c = λ waits ys nears awaited alike may. leave_plan c.args.item c.args.old.now c.args.v.now c.args.change.start c.args.change.end c.reach_of-reach.result.start c.reach_of-reach.result.end c.args.key (counting c.args.blocks.start c.args.blocks.len)
    waits c.args.near.now c.args.asks.now ys c.args.own.now c.in_ok-ended.ended.items c.requires.narrows c.size-size.ensures.small c.reach_of-reach.ensures.start c.reach_of-reach.ensures.end
    (subst (λ (l : List (Wait × Cause)). AllByRecursion (λ e. IsWithin c.args.v.now c.reach_of-reach.result.start c.reach_of-reach.result.end e.0) l) c.deref.ensures.value c.reach_of-reach.ensures.within)
    (c.may_touch.ensures c.if-may_touch.false (apart_alike c.args.item c.args.asks.now ys alike may.apart) (sym c.requires.own)) (c.lacks_in.ensures c.if-lacks_in.false) c.requires.own c.in_ok-ended.ensures nears awaited alike may
