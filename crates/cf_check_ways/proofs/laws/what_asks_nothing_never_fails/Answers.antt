use Rattle.cf_check_ways.proofs.FirstAsks.{never_asks}
use Rattle.cf_check_ways.proofs.laws.what_asks_nothing_never_fails.Goals as goal

pub returns : goal.returns
returns c = never_asks
