use Rattle.cf_pair_run.proofs.Stepping.{first_steps}
use Rattle.cf_pair_run.proofs.worlds.PairWorld.turn_first.Goals as goal

pub returns : goal.returns
returns g c = rw c.answered.ensures (first_steps g.D.Disk.state g.R.Remote.told c.args.self c.args.event.now c.act-first.result.2 c.act-first.result.0 c.act-first.result.1 c.requires c.act-first.ensures)
