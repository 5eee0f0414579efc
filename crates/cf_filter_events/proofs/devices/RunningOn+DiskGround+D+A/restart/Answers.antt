use Rattle.cf_filter_events.proofs.Powers.{running_step}
use Rattle.cf_filter_events.proofs.devices.RunningOn+DiskGround+D+A.restart.Goals as goal

pub returns-clause-steps : goal.returns-clause-steps
returns-clause-steps g c = rw c.refused.ensures (running_step g.A.Provider.answers g.A.Actor.acts g.met.A.Actor.actor g.D.Disk.state c.args.self.now)
