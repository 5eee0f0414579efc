use Rattle.std.proofs.Common.{refl}
use Rattle.cf_filter_events.proofs.OffEvents.{off_counts, off_faults}
use Rattle.cf_filter_events.proofs.Offs.{off_acts}
use Rattle.cf_filter_events.proofs.places.Cut.act.Goals as goal

pub returns-clause-steps : goal.returns-clause-steps
returns-clause-steps g c =
    off_acts g.A.Actor.acts g.D.Disk.state c.args.event.now c.args.self.now (record { disk = c.args.self.now.disk; policy = c.args.self.now.policy; whole = c.args.self.now.whole; actor = c.act_off.new.actor }) _ refl refl refl c.act_off.ensures

pub returns-clause-counts : goal.returns-clause-counts
returns-clause-counts g c = off_counts g.A.Actor.acts c.args.event.now c.args.self.now.actor c.act_off.new.actor _ (g.D.Disk.state c.args.self.now.disk) c.act_off.ensures

pub returns-clause-faults : goal.returns-clause-faults
returns-clause-faults g c = off_faults g.A.Actor.acts g.D.Disk.state c.args.event.now c.args.self.now c.act_off.new.actor _ c.act_off.ensures
