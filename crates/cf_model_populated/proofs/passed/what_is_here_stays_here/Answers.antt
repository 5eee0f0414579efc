-- A search does not find the lemmas, which are the clauses.
use Rattle.cf_model_populated.proofs.AccountedSteps.{asked_accounted, effect_accounted}
use Rattle.cf_model_populated.proofs.passed.what_is_here_stays_here.Goals as goal

pub returns-clause-asked : goal.returns-clause-asked
returns-clause-asked c = asked_accounted

pub returns-clause-changed : goal.returns-clause-changed
returns-clause-changed c = effect_accounted
