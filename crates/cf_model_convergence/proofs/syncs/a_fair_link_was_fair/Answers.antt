-- A search does not find the lemma, which is the clause.
use Rattle.cf_model_convergence.proofs.FairBefore.{run_was_fair}
use Rattle.cf_model_convergence.proofs.syncs.a_fair_link_was_fair.Goals as goal

pub returns : goal.returns
returns c = run_was_fair
