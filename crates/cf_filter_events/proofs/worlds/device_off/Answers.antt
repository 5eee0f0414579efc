use Rattle.std.proofs.Common.{◌∙◌, ap, refl}
use Rattle.std.specs.Prelude.{Ok}
use Rattle.cf_filter_events.specs.Stepped.{disk_of}
use Rattle.cf_filter_events.proofs.EventFaults.{shown_faults}
use Rattle.cf_filter_events.proofs.Wholes.{crash_is_none, off_over, off_steps, opens_none, stop_is_none}
use Rattle.cf_filter_events.proofs.Counted.{counts_by}
use Rattle.cf_filter_events.proofs.worlds.device_off.Goals as goal

pub returns-in-Stop-clause-steps : goal.returns-in-Stop-clause-steps
returns-in-Stop-clause-steps g c = rw c.in-Stop.is (off_steps g.A.Actor.acts g.D.Disk.state _ _ _ _ (λ last a t. (refl, refl)) c.stop-told.ensures.steps)

pub returns-in-Stop-clause-device : goal.returns-in-Stop-clause-device
returns-in-Stop-clause-device g c = rw c.in-Stop.is c.stop-told.ensures.armed

pub returns-in-Crash-clause-steps : goal.returns-in-Crash-clause-steps
returns-in-Crash-clause-steps g c = rw c.in-Crash.is (off_over g.A.Actor.acts g.D.Disk.state _ _ _ _ c.cut-told.ensures.steps)

pub returns-in-Crash-clause-device : goal.returns-in-Crash-clause-device
returns-in-Crash-clause-device g c = rw c.in-Crash.is c.cut-told.ensures.powers

pub returns-in-Restart-clause-steps : goal.returns-in-Restart-clause-steps
returns-in-Restart-clause-steps g c = rw c.in-Restart.is c.restart.ensures.steps

pub returns-in-Restart-clause-device : goal.returns-in-Restart-clause-device
returns-in-Restart-clause-device g c = rw c.in-Restart.is (record {})

pub returns-in-Stop-clause-counts : goal.returns-in-Stop-clause-counts
returns-in-Stop-clause-counts g c = rw c.in-Stop.is c.stop-told.ensures.counts

pub returns-in-Crash-clause-counts : goal.returns-in-Crash-clause-counts
returns-in-Crash-clause-counts g c = rw c.in-Crash.is (counts_by 0 (Ok c.cut-told.result) (g.D.Disk.state c.args.cut.disk) (g.D.Disk.state c.cut-told.new.self.disk) c.cut-told.ensures.counts)

pub returns-in-Restart-clause-counts : goal.returns-in-Restart-clause-counts
returns-in-Restart-clause-counts g c = rw c.in-Restart.is (counts_by 0 c.restart.result.1 (g.D.Disk.state c.args.cut.disk) (g.D.Disk.state (disk_of c.restart.result.0)) c.restart.ensures.counts)

pub returns-in-Stop-clause-faults : goal.returns-in-Stop-clause-faults
returns-in-Stop-clause-faults g c = shown_faults _ _ _ _ c.stop-told.ensures.told refl (ap (λ p. g.A.Actor.acts.remote p) c.stop-told.ensures.actor)

pub returns-in-Crash-clause-faults : goal.returns-in-Crash-clause-faults
returns-in-Crash-clause-faults g c = shown_faults _ _ _ _ c.cut-told.ensures.told refl (ap (λ p. g.A.Actor.acts.remote p) c.cut-told.ensures.actor)

pub returns-in-Restart-clause-faults : goal.returns-in-Restart-clause-faults
returns-in-Restart-clause-faults g c = c.restart.ensures.faults

pub returns-in-Stop-clause-whole : goal.returns-in-Stop-clause-whole
returns-in-Stop-clause-whole g c = λ whole. c.stop-told.ensures.whole ∙ whole

pub returns-in-Crash-clause-whole : goal.returns-in-Crash-clause-whole
returns-in-Crash-clause-whole g c = λ whole. c.cut-told.ensures.whole ∙ whole

pub returns-in-Restart-clause-whole : goal.returns-in-Restart-clause-whole
returns-in-Restart-clause-whole g c = c.restart.ensures.whole

pub returns-in-Stop-clause-newest : goal.returns-in-Stop-clause-newest
returns-in-Stop-clause-newest g c = rw c.in-Stop.is (opens_none g.A.Actor.acts g.D.Disk.state _ _ _ (stop_is_none _))

pub returns-in-Crash-clause-newest : goal.returns-in-Crash-clause-newest
returns-in-Crash-clause-newest g c = rw c.in-Crash.is (opens_none g.A.Actor.acts g.D.Disk.state _ _ _ (crash_is_none _))

pub returns-in-Restart-clause-newest : goal.returns-in-Restart-clause-newest
returns-in-Restart-clause-newest g c = rw c.in-Restart.is c.restart.ensures.newest
