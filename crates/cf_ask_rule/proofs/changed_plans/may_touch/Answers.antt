use Rattle.std.proofs.Common.{◌∙◌, sym}
use Rattle.std.specs.Prelude.{option_copied}
use Rattle.cf_ask_rule.proofs.Apart.{untouched_own}
use Rattle.cf_ask_rule.proofs.changed_plans.may_touch.Goals as goal

pub returns-then-has_all : goal.returns-then-has_all
returns-then-has_all c = λ f apart own. untouched_own c.args.item c.args.key c.args.reach.start c.args.reach.end c.min.result (option_copied c.args.own) c.args.asks.now c.min.ensures (sym c.has_all.ensures ∙ c.if-has_all.true) apart own
