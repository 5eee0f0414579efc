use Rattle.cf_engine_passes.proofs.CountedLeft.{shows_unsettled}
use Rattle.cf_engine_passes.proofs.unsettled.show_unsettled.Goals as goal

pub returns : goal.returns
returns g c = shows_unsettled g.S.Steps.sense g.R.Remote.told c.args.s.now c.args.e.now c.in_ok-count.count c.in_ok-count.ensures
