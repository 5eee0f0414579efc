use Rattle.cf_pair_run.proofs.Stepping.{compare_steps}
use Rattle.cf_pair_run.proofs.worlds.PairWorld.comparison.Goals as goal

pub returns-in-Ok : goal.returns-in-Ok
returns-in-Ok g c = compare_steps g.D.Disk.state g.R.Remote.told c.args.self.now c.in-Ok.comparison c.in-Ok.ensures
