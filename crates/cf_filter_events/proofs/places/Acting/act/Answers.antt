use Rattle.std.proofs.Common.{◌∙◌, refl}
use Rattle.cf_filter_events.proofs.Counted.{counts_by, counts_event, counts_over}
use Rattle.cf_filter_events.proofs.EventFaults.{faults_off, faults_over}
use Rattle.cf_filter_events.proofs.Wholes.{bears_none, no_restart, none_done, off_steps, on_steps, on_whole, opens_none}
use Rattle.cf_filter_events.proofs.places.Acting.act.Goals as goal

pub returns-in-On-clause-steps : goal.returns-in-On-clause-steps
returns-in-On-clause-steps g c = rw c.in-On.is (on_steps g.A.Actor.acts g.D.Disk.state _ _ _ _ (none_done _ c.requires.other) c.act.ensures.steps)

pub returns-in-On-clause-device : goal.returns-in-On-clause-device
returns-in-On-clause-device g c = bears_none _ _ _ c.requires.other

pub returns-in-On-clause-counts : goal.returns-in-On-clause-counts
returns-in-On-clause-counts g c = rw c.in-On.is (counts_over g.A.Actor.acts g.D.Disk.state _ _ _ _ _ c.act.ensures.counts)

pub returns-in-On-clause-faults : goal.returns-in-On-clause-faults
returns-in-On-clause-faults g c = rw c.in-On.is (faults_over g.A.Actor.acts g.D.Disk.state _ _ _ _ c.act.ensures.faults)

pub returns-in-On-clause-whole : goal.returns-in-On-clause-whole
returns-in-On-clause-whole g c = on_whole g.A.Actor.acts g.D.Disk.state _ _ refl

pub returns-in-On-clause-newest : goal.returns-in-On-clause-newest
returns-in-On-clause-newest g c = opens_none g.A.Actor.acts g.D.Disk.state _ _ _ (no_restart _ c.requires.other)

pub returns-in-Off-clause-steps : goal.returns-in-Off-clause-steps
returns-in-Off-clause-steps g c = rw c.in-Off.is (off_steps g.A.Actor.acts g.D.Disk.state _ _ _ _ (none_done _ c.requires.other) c.act-in-Off.ensures.steps)

pub returns-in-Off-clause-device : goal.returns-in-Off-clause-device
returns-in-Off-clause-device g c = bears_none _ _ _ c.requires.other

pub returns-in-Off-clause-counts : goal.returns-in-Off-clause-counts
returns-in-Off-clause-counts g c = rw c.in-Off.is (counts_event _ _ _ _ _ _ (counts_by _ _ _ _ c.act-in-Off.ensures.counts))

pub returns-in-Off-clause-faults : goal.returns-in-Off-clause-faults
returns-in-Off-clause-faults g c = rw c.in-Off.is (faults_off g.A.Actor.acts g.D.Disk.state _ _ _ _ c.act-in-Off.ensures.faults)

pub returns-in-Off-clause-whole : goal.returns-in-Off-clause-whole
returns-in-Off-clause-whole g c = rw c.in-Off.is (record { whole = λ past s is power whole. c.act-in-Off.ensures.whole ∙ whole })

pub returns-in-Off-clause-newest : goal.returns-in-Off-clause-newest
returns-in-Off-clause-newest g c = opens_none g.A.Actor.acts g.D.Disk.state _ _ _ (no_restart _ c.requires.other)
