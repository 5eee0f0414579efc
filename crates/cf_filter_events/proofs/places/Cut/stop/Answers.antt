use Rattle.std.proofs.Common.{refl}
use Rattle.cf_filter_events.proofs.Counted.{stop_counts}
use Rattle.cf_filter_events.proofs.Offs.{off_stop}
use Rattle.cf_filter_events.proofs.places.Cut.stop.Goals as goal

pub returns-clause-counts : goal.returns-clause-counts
returns-clause-counts g c = stop_counts c.args.calls _ _ (g.D.Disk.state c.args.self.now.disk) (g.D.Disk.state c.arm.new.self) c.plainly.ensures refl c.arm.ensures.same.faults c.arm.ensures.armed c.arm.ensures.same.settings

pub returns-clause-steps : goal.returns-clause-steps
returns-clause-steps g c = rw c.plainly.ensures (off_stop g.A.Provider.answers g.A.Actor.acts g.met.A.Actor.actor g.D.Disk.state c.args.calls c.args.self.now (record { disk = c.arm.new.self; policy = c.args.self.now.policy; whole = c.args.self.now.whole; actor = c.args.self.now.actor }) refl refl refl c.arm.ensures.same)
