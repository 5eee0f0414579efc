-- A search does not find the lemmas, which are the clauses.
use Rattle.cf_model_populated.proofs.PopulatedSyncs.{work_settles, work_settles_all}
use Rattle.cf_model_populated.proofs.syncs.a_silent_work_settles_what_is_populated.Goals as goal

pub returns-clause-local : goal.returns-clause-local
returns-clause-local c = work_settles

pub returns-clause-whole : goal.returns-clause-whole
returns-clause-whole c = work_settles_all
