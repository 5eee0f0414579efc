use Rattle.std.proofs.Common.{ap, refl, subst, sym}
use Rattle.cf_disk.specs.Disk.{Settings}
use Rattle.cf_filter_events.specs.Stepped.{actor_of, whole_of}
use Rattle.cf_filter_events.proofs.Wholes.{off_not_on, on_not_off}
use Rattle.cf_filter_events.proofs.Offs.{aimed_off}
use Rattle.cf_filter_events.specs.Meaning.{Is}
use Rattle.cf_filter_events.specs.declared.places.Acting.{Acting}
use Rattle.cf_filter_events.proofs.places.Acting.aim.Goals as goal

pub returns-in-Off-clause-is : goal.returns-in-Off-clause-is
returns-in-Off-clause-is g c = λ past s is.
    aimed_off g.A.Provider.answers g.A.Actor.acts g.met.A.Actor.actor g.D.Disk.state c.args.changes past s c.in-Off.cut
    (record { disk = c.aim.new.self; policy = c.in-Off.cut.policy; whole = c.in-Off.cut.whole; actor = c.in-Off.cut.actor }) refl refl refl c.aim.ensures.same
    (subst (λ (x : Acting _ _). Is g.A.Actor.acts g.D.Disk.state past x s) c.in-Off.is is)

pub returns-in-On-clause-aimed : goal.returns-in-On-clause-aimed
returns-in-On-clause-aimed g c = λ past s is power.
    absurd (on_not_off g.A.Actor.acts g.D.Disk.state past c.in-On._running s (subst (λ (x : Acting _ _). Is g.A.Actor.acts g.D.Disk.state past x s) c.in-On.is is) power)

pub returns-in-Off-clause-aimed : goal.returns-in-Off-clause-aimed
returns-in-Off-clause-aimed g c = λ past s is power. ap (λ (z : Settings). z.aim) c.aim.ensures.same.settings

pub returns-in-Off-clause-whole : goal.returns-in-Off-clause-whole
returns-in-Off-clause-whole g c = ap whole_of (sym c.in-Off.is)

pub returns-in-Off-clause-actor : goal.returns-in-Off-clause-actor
returns-in-Off-clause-actor g c = ap actor_of (sym c.in-Off.is)

pub returns-in-Off-clause-on : goal.returns-in-Off-clause-on
returns-in-Off-clause-on g c = λ past s is power.
    absurd (off_not_on g.A.Actor.acts g.D.Disk.state past c.in-Off.cut s (subst (λ (x : Acting _ _). Is g.A.Actor.acts g.D.Disk.state past x s) c.in-Off.is is) power)
