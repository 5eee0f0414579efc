use Rattle.cf_pair_identities.proofs.EventsNamed.{step_named}
use Rattle.cf_pair_identities.proofs.PairsNamed.{pair_now_named, pair_step_named, start_pair_named}
use Rattle.cf_pair_identities.proofs.laws.directories_stay_filled.Goals as goal

-- src/laws.rt:25:1
pub returns-clause-event : goal.returns-clause-event
returns-clause-event c = step_named

-- src/laws.rt:25:1
pub returns-clause-start : goal.returns-clause-start
returns-clause-start c = start_pair_named

-- src/laws.rt:25:1
pub returns-clause-step : goal.returns-clause-step
returns-clause-step c = pair_step_named

-- src/laws.rt:25:1
pub returns-clause-now : goal.returns-clause-now
returns-clause-now c = pair_now_named
