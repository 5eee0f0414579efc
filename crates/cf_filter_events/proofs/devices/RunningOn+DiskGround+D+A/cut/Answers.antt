use Rattle.std.proofs.Common.{ap, not, refl, subst}
use Rattle.cf_disk.specs.Disk.{Powers}
use Rattle.cf_filter_events.proofs.Powers.{cut_step}
use Rattle.cf_filter_events.proofs.devices.RunningOn+DiskGround+D+A.cut.Goals as goal

pub returns-clause-steps : goal.returns-clause-steps
returns-clause-steps g c =
    let disk = c.into_disk-disk.ensures in
    cut_step g.A.Provider.answers g.A.Actor.acts g.met.A.Actor.actor g.D.Disk.state c.args.choice c.args.self (record { disk = c.power.new.self; policy = c.policy-policy.result; whole = not c.is_broken-whole.result; actor = c.args.self.actor }) c.policy-policy.ensures refl (ap not c.is_broken-whole.ensures)
    (subst (λ (d : _). (g.D.Disk.state d).may_leave (g.D.Disk.state c.power.new.self).seen) disk c.power.ensures.left) c.power.ensures.durable
    (subst (λ (d : _). Powers c.args.choice (g.D.Disk.state d) (g.D.Disk.state c.power.new.self)) disk c.power.ensures.powers)

pub returns-clause-powers : goal.returns-clause-powers
returns-clause-powers g c = subst (λ (d : _). Powers c.args.choice (g.D.Disk.state d) (g.D.Disk.state c.power.new.self)) c.into_disk-disk.ensures c.power.ensures.powers

pub returns-clause-whole : goal.returns-clause-whole
returns-clause-whole g c = ap not c.is_broken-whole.ensures
