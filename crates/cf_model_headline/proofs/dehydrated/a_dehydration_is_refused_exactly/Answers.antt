-- It is the law of the verdict, of each event.
use Rattle.cf_model_headline.proofs.DehydratedLaws.{dehydrates_exactly}
use Rattle.cf_model_headline.proofs.dehydrated.a_dehydration_is_refused_exactly.Goals as goal

pub returns : goal.returns
returns c m remote clusters report last before rest s e a t parts led is leads = dehydrates_exactly m s e a t is
