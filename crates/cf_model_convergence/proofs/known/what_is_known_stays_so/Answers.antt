-- A search does not find the lemmas, which are the clauses.
use Rattle.cf_model_convergence.proofs.PassedSteps.{asked_right, effect_right, passed_now, reset_right, seen_right}
use Rattle.cf_model_convergence.proofs.known.what_is_known_stays_so.Goals as goal

pub returns-clause-asked : goal.returns-clause-asked
returns-clause-asked c = asked_right

pub returns-clause-changed : goal.returns-clause-changed
returns-clause-changed c = effect_right

pub returns-clause-seen : goal.returns-clause-seen
returns-clause-seen c = seen_right

pub returns-clause-reset : goal.returns-clause-reset
returns-clause-reset c = reset_right

pub returns-clause-now : goal.returns-clause-now
returns-clause-now c = passed_now
