use Rattle.std.proofs.Common.{refl}
use Rattle.cf_filter_events.proofs.Counted.{stop_counts}
use Rattle.cf_filter_events.proofs.Powers.{stop_step}
use Rattle.cf_filter_events.proofs.devices.RunningOn+DiskGround+D+A.stop.Goals as goal

pub returns-clause-steps : goal.returns-clause-steps
returns-clause-steps g c =
    rw c.plainly.ensures (stop_step g.A.Provider.answers g.A.Actor.acts g.met.A.Actor.actor g.D.Disk.state c.args.calls c.args.self.now.filter c.arm.new.self c.args.self.now.actor c.arm.ensures.same c.arm.ensures.stands c.arm.ensures.desk c.arm.ensures.known)

pub returns-clause-counts : goal.returns-clause-counts
returns-clause-counts g c = stop_counts c.args.calls _ _ (g.D.Disk.state c.args.self.now.filter.disk) (g.D.Disk.state c.arm.new.self.disk) c.plainly.ensures refl c.arm.ensures.same.faults c.arm.ensures.armed c.arm.ensures.same.settings
