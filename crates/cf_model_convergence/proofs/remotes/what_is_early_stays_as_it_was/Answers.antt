-- A search does not find the lemma, which is the clause.
use Rattle.cf_model_convergence.proofs.LateChanges.{run_as}
use Rattle.cf_model_convergence.proofs.remotes.what_is_early_stays_as_it_was.Goals as goal

pub returns : goal.returns
returns c = run_as
