-- A search does not find the lemmas, which are the clauses.
use Rattle.cf_model_populated.proofs.AccountedSteps.{accounted_now, raised_accounted}
use Rattle.cf_model_populated.proofs.passed.a_feed_that_is_here_raises_the_cursor.Goals as goal

pub returns-clause-raised : goal.returns-clause-raised
returns-clause-raised c = raised_accounted

pub returns-clause-now : goal.returns-clause-now
returns-clause-now c = accounted_now
