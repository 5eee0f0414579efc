-- A search does not find the lemmas, which are the clauses.
use Rattle.cf_model_populated.proofs.AccountedSteps.{buried_accounted, reset_accounted, unburied_accounted}
use Rattle.cf_model_populated.proofs.passed.a_tombstone_stands_for_its_item.Goals as goal

pub returns-clause-buried : goal.returns-clause-buried
returns-clause-buried c = buried_accounted

pub returns-clause-unburied : goal.returns-clause-unburied
returns-clause-unburied c = unburied_accounted

pub returns-clause-reset : goal.returns-clause-reset
returns-clause-reset c = reset_accounted
