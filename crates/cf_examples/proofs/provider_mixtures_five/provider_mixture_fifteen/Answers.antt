-- The row computes longer than a search does.
use Rattle.std.proofs.Common.{refl}
use Rattle.cf_examples.proofs.provider_mixtures_five.provider_mixture_fifteen.Goals as goal

pub returns : goal.returns
returns c = refl
