use Rattle.cf_pair_run.proofs.Stepping.{visit_steps}
use Rattle.cf_pair_run.proofs.worlds.PairWorld.be_visited.Goals as goal

pub returns : goal.returns
returns g c = rw c.answered.ensures (visit_steps g.D.Disk.state g.R.Remote.told c.args.self c.args.event.now c.visit-third.result.2 c.visit-third.result.0 c.visit-third.result.1 c.visit-third.ensures)
