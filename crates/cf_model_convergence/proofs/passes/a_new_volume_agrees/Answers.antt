-- A search does not find the lemmas, which are the clauses.
use Rattle.cf_model_convergence.proofs.FirstStates.{first_agrees, first_here, first_whole}
use Rattle.cf_model_convergence.proofs.passes.a_new_volume_agrees.Goals as goal

pub returns-clause-agrees : goal.returns-clause-agrees
returns-clause-agrees c = first_agrees

pub returns-clause-here : goal.returns-clause-here
returns-clause-here c = first_here

pub returns-clause-whole : goal.returns-clause-whole
returns-clause-whole c = first_whole
