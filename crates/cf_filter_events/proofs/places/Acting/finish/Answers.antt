use Rattle.std.proofs.Common.{subst}
use Rattle.cf_filter_events.proofs.Wholes.{off_hands, on_hands, on_holds}
use Rattle.cf_filter_events.specs.Meaning.{Is}
use Rattle.cf_filter_events.specs.declared.places.Acting.{Acting}
use Rattle.cf_filter_events.proofs.places.Acting.finish.Goals as goal

pub returns-in-On-clause-lasts : goal.returns-in-On-clause-lasts
returns-in-On-clause-lasts g c = λ past s is image may.
    on_hands g.A.Actor.acts g.D.Disk.state past c.in-On.running s (subst (λ (x : Acting _ _). Is g.A.Actor.acts g.D.Disk.state past x s) c.in-On.is is) image (subst (λ (d : _). (g.D.Disk.state d).may_leave image) c.into_disk.ensures may)

pub returns-in-Off-clause-lasts : goal.returns-in-Off-clause-lasts
returns-in-Off-clause-lasts g c = λ past s is image may.
    off_hands g.A.Actor.acts g.D.Disk.state past c.in-Off.cut s (subst (λ (x : Acting _ _). Is g.A.Actor.acts g.D.Disk.state past x s) c.in-Off.is is) image may

pub returns-in-On-clause-holds : goal.returns-in-On-clause-holds
returns-in-On-clause-holds g c = λ past s is.
    on_holds g.A.Provider.answers g.A.Actor.acts g.met.A.Actor.actor g.D.Disk.state past c.in-On.running s (subst (λ (x : Acting _ _). Is g.A.Actor.acts g.D.Disk.state past x s) c.in-On.is is)
