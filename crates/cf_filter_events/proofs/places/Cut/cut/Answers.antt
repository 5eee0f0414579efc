use Rattle.std.proofs.Common.{refl}
use Rattle.cf_filter_events.proofs.Counted.{cut_off, shown_counts}
use Rattle.cf_filter_events.proofs.Offs.{off_crash}
use Rattle.cf_filter_events.proofs.places.Cut.cut.Goals as goal

pub returns-clause-counts : goal.returns-clause-counts
returns-clause-counts g c = shown_counts _ _ (g.D.Disk.state c.args.self.now.disk) (g.D.Disk.state c.power.new.self) c.plainly.ensures refl (cut_off (g.D.Disk.state c.args.self.now.disk) (g.D.Disk.state c.power.new.self) c.power.ensures.powers.faults c.power.ensures.powers.armed c.power.ensures.powers.settings)

pub returns-clause-steps : goal.returns-clause-steps
returns-clause-steps g c = rw c.plainly.ensures (off_crash g.A.Provider.answers g.A.Actor.acts g.met.A.Actor.actor g.D.Disk.state c.args.choice c.args.self.now (record { disk = c.power.new.self; policy = c.args.self.now.policy; whole = c.args.self.now.whole; actor = c.args.self.now.actor }) refl refl refl c.power.ensures.left c.power.ensures.durable c.power.ensures.powers)
