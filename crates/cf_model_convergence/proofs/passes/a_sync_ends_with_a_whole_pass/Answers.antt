-- A search does not find the lemma, which is the clause.
use Rattle.cf_model_convergence.proofs.LastPasses.{sync_ends}
use Rattle.cf_model_convergence.proofs.passes.a_sync_ends_with_a_whole_pass.Goals as goal

pub returns : goal.returns
returns c = sync_ends
