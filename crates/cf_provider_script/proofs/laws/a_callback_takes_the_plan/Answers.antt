use Rattle.cf_provider_script.specs.Turns.{callback_ends, callback_stops}
use Rattle.cf_provider_script.proofs.laws.a_callback_takes_the_plan.Goals as goal

pub returns : goal.returns
returns c = record { ends = callback_ends; stops = callback_stops }
