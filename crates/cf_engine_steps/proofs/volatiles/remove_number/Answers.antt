use Rattle.std.proofs.Common.{rules, of_calls, not}
use Rattle.std.proofs.lemmas.Fn.{filter_same}
use Rattle.cf_model.specs.Numbers.{same_usn}
use Rattle.cf_engine_steps.proofs.volatiles.remove_number.Goals as goal

pub returns : goal.returns
returns c = filter_same _ (λ n. not (same_usn c.args.number n)) _ (λ x b f k. search (rules, of_calls)) _ _ c.retain.ensures.filtered
