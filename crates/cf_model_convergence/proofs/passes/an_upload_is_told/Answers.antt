-- A search does not find the lemmas, which are the clauses.
use Rattle.cf_model_convergence.proofs.ItemsPushed.{item_told, removal_told}
use Rattle.cf_model_convergence.proofs.passes.an_upload_is_told.Goals as goal

pub returns-clause-item : goal.returns-clause-item
returns-clause-item c = item_told

pub returns-clause-removal : goal.returns-clause-removal
returns-clause-removal c = removal_told
