-- It is the law of the front.
use Rattle.cf_model.proofs.TraceLaws.{lawful_front}
use Rattle.cf_model.proofs.traces.the_front_is_lawful.Goals as goal

pub returns : goal.returns
returns c = lawful_front
