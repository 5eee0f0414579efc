-- It is the law of the verdict.
use Rattle.cf_model_laws.proofs.DehydrationLaws.{refused_exactly}
use Rattle.cf_model_laws.proofs.dehydration.a_dehydration_is_refused_exactly.Goals as goal

pub returns : goal.returns
returns c = refused_exactly
