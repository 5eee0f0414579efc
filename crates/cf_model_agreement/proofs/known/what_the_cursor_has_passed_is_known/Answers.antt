-- A search does not find the lemma, which is the clause.
use Rattle.cf_model_agreement.proofs.KnownGuarded.{run_passed}
use Rattle.cf_model_agreement.proofs.known.what_the_cursor_has_passed_is_known.Goals as goal

pub returns : goal.returns
returns c = run_passed
