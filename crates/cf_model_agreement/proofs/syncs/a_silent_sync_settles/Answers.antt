-- A search does not find the lemmas, which are the clauses.
use Rattle.cf_model_agreement.proofs.KnownSyncs.{sync_silent, sync_silent_all}
use Rattle.cf_model_agreement.proofs.syncs.a_silent_sync_settles.Goals as goal

pub returns-clause-local : goal.returns-clause-local
returns-clause-local c = sync_silent

pub returns-clause-whole : goal.returns-clause-whole
returns-clause-whole c = sync_silent_all
