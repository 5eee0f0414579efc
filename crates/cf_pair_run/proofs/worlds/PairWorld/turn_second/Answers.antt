use Rattle.cf_pair_run.proofs.Stepping.{second_steps}
use Rattle.cf_pair_run.proofs.worlds.PairWorld.turn_second.Goals as goal

pub returns : goal.returns
returns g c = rw c.answered.ensures (second_steps g.D.Disk.state g.R.Remote.told c.args.self c.args.event.now c.act-second.result.2 c.act-second.result.0 c.act-second.result.1 c.requires c.act-second.ensures)
