use Rattle.std.proofs.Common.{rules, of_calls, not, ◌==◌}
use Rattle.std.proofs.lemmas.Fn.{filter_same}
use Rattle.cf_engine_steps.proofs.volatiles.remove_item.Goals as goal

pub returns : goal.returns
returns c = filter_same _ (λ i. not (i.0 == c.args.item.0)) _ (λ x b f k. search (rules, of_calls)) _ _ c.retain.ensures.filtered
