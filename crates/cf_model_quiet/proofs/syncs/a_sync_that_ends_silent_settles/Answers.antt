use Rattle.cf_model_quiet.proofs.SilentSyncs.{run_quiet}
use Rattle.cf_model_quiet.proofs.syncs.a_sync_that_ends_silent_settles.Goals as goal

pub returns : goal.returns
returns c = run_quiet
