-- A search does not find the lemmas, which are the clauses.
use Rattle.cf_model_convergence.proofs.WorksCalm.{run_silent, run_silent_all}
use Rattle.cf_model_convergence.proofs.syncs.a_silent_sync_leaves_a_settled_state.Goals as goal

pub returns-clause-local : goal.returns-clause-local
returns-clause-local c = run_silent

pub returns-clause-whole : goal.returns-clause-whole
returns-clause-whole c = run_silent_all
