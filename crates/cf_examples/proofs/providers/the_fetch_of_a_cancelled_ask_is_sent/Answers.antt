-- The row computes longer than a search does.
use Rattle.std.proofs.Common.{refl}
use Rattle.cf_examples.proofs.providers.the_fetch_of_a_cancelled_ask_is_sent.Goals as goal

pub returns : goal.returns
returns c = refl
