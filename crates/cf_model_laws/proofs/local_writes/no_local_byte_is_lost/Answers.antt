-- They are the laws of local writes.
use Rattle.cf_model_laws.proofs.LocalLaws.{flushed_locals_kept, locals_held}
use Rattle.cf_model_laws.proofs.local_writes.no_local_byte_is_lost.Goals as goal

pub returns-clause-held : goal.returns-clause-held
returns-clause-held c = locals_held

pub returns-clause-flushed : goal.returns-clause-flushed
returns-clause-flushed c = flushed_locals_kept
