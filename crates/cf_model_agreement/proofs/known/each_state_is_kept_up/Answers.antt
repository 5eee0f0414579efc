-- A search does not find the lemma, which is the clause.
use Rattle.cf_model_agreement.proofs.KnownGuarded.{run_kept_up}
use Rattle.cf_model_agreement.proofs.known.each_state_is_kept_up.Goals as goal

pub returns : goal.returns
returns c = run_kept_up
