use Rattle.std.proofs.Common.{sym, subst, Option, ℕ}
use Rattle.cf_model.specs.Dehydration.{dehydrate_range}
use Rattle.cf_filter_steps.specs.Answering.{Answers, IsAt}
use Rattle.cf_filter_calls.proofs.Dehydrated.{whole_on}
use Rattle.cf_filter_calls.proofs.dehydrations.dehydrate_range.Goals as goal

pub returns-in-Some : goal.returns-in-Some
returns-in-Some g c = λ i. subst (λ (r : Option (ℕ × ℕ)). Answers g.S.Steps.sense (IsAt c.args.id i) (dehydrate_range r i) c.args.s.now c.dehydrate_item.result c.dehydrate_item.new.s) (sym c.in-Some.is) (c.dehydrate_item.ensures i)

pub returns-in-None : goal.returns-in-None
returns-in-None g c = λ i. subst (λ (r : Option (ℕ × ℕ)). Answers g.S.Steps.sense (IsAt c.args.id i) (dehydrate_range r i) c.args.s.now c.dehydrate_item-in-None.result c.dehydrate_item-in-None.new.s) (sym c.in-None.is)
    (whole_on g.S.Steps.sense c.args.id c.size_at-size.result c.args.s.now c.dehydrate_item-in-None.new.s c.dehydrate_item-in-None.result c.size_at-size.ensures c.dehydrate_item-in-None.ensures i)
