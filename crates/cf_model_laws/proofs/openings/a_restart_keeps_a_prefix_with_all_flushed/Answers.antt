-- They are the laws of openings.
use Rattle.cf_model_laws.proofs.OpeningLaws.{flushed_kept, step_opens}
use Rattle.cf_model_laws.proofs.openings.a_restart_keeps_a_prefix_with_all_flushed.Goals as goal

pub returns-clause-opened : goal.returns-clause-opened
returns-clause-opened c = step_opens

pub returns-clause-flushed : goal.returns-clause-flushed
returns-clause-flushed c = flushed_kept
