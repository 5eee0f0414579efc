-- A search does not find the lemmas, which are the clauses.
use Rattle.cf_model_populated.proofs.PopulatedSyncs.{sync_settles, sync_settles_all}
use Rattle.cf_model_populated.proofs.syncs.a_silent_sync_settles_what_is_populated.Goals as goal

pub returns-clause-local : goal.returns-clause-local
returns-clause-local c = sync_settles

pub returns-clause-whole : goal.returns-clause-whole
returns-clause-whole c = sync_settles_all
