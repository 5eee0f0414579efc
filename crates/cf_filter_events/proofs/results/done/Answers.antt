use Rattle.std.proofs.Common.{ap, sym}
use Rattle.cf_filter.specs.Calling.{shows_done}
use Rattle.cf_filter_events.specs.Answered.{showing}
use Rattle.cf_filter_events.proofs.results.done.Goals as goal

pub returns-in-Ok : goal.returns-in-Ok
unfolding shows_done
returns-in-Ok c = ap (showing shows_done) (sym c.in-Ok.is)
