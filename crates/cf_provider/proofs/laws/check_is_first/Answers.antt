use Rattle.cf_provider.proofs.Fronts.{refused_first}
use Rattle.cf_provider.proofs.laws.check_is_first.Goals as goal
use Rattle.cf_model.specs.Operations.{key_of, live_at}

pub returns : goal.returns
returns c = λ f op s c h. refused_first f op (live_at (key_of op) s) s c h
