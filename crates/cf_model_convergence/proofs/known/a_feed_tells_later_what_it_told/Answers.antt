-- A search does not find the lemmas, which are the clauses.
use Rattle.cf_model_convergence.proofs.PassedSteps.{told_between, told_or_late}
use Rattle.cf_model_convergence.proofs.known.a_feed_tells_later_what_it_told.Goals as goal

pub returns-clause-all : goal.returns-clause-all
returns-clause-all c = told_between

pub returns-clause-now : goal.returns-clause-now
returns-clause-now c = told_or_late
