-- A search does not find the lemma, which is the clause.
use Rattle.cf_model_convergence.proofs.FewPasses.{sync_few}
use Rattle.cf_model_convergence.proofs.passes.a_sync_makes_few_passes.Goals as goal

pub returns : goal.returns
returns c = sync_few
