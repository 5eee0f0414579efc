-- A search does not find the lemma, which is the clause.
use Rattle.cf_model_agreement.proofs.KnownGuarded.{run_late}
use Rattle.cf_model_agreement.proofs.known.what_was_done_is_ahead.Goals as goal

pub returns : goal.returns
returns c = run_late
