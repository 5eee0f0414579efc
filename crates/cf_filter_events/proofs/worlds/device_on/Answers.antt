use Rattle.std.proofs.Common.{ap, refl}
use Rattle.std.specs.Prelude.{Ok}
use Rattle.cf_filter_events.proofs.Counted.{counts_by, cut_off, shown_counts, stays}
use Rattle.cf_filter_events.proofs.EventFaults.{shown_faults}
use Rattle.cf_filter_events.proofs.Wholes.{crash_is_none, cut_whole, on_over, on_steps, on_whole, opens_none, stop_is_none}
use Rattle.cf_filter_events.proofs.worlds.device_on.Goals as goal

pub returns-in-Stop-clause-steps : goal.returns-in-Stop-clause-steps
returns-in-Stop-clause-steps g c = rw c.in-Stop.is (on_steps g.A.Actor.acts g.D.Disk.state _ _ _ _ (λ last a t. (refl, refl)) c.stop-told.ensures.steps)

pub returns-in-Stop-clause-device : goal.returns-in-Stop-clause-device
returns-in-Stop-clause-device g c = rw c.in-Stop.is c.stop-told.ensures.armed

pub returns-in-Crash-clause-steps : goal.returns-in-Crash-clause-steps
returns-in-Crash-clause-steps g c = rw (c.in-Crash.is, c.plainly.ensures) c.cut-cut.ensures.steps

pub returns-in-Crash-clause-device : goal.returns-in-Crash-clause-device
returns-in-Crash-clause-device g c = rw c.in-Crash.is c.cut-cut.ensures.powers

pub returns-in-Restart-clause-steps : goal.returns-in-Restart-clause-steps
returns-in-Restart-clause-steps g c = rw c.in-Restart.is (on_over g.A.Actor.acts g.D.Disk.state _ _ _ _ c.restart-told.ensures.steps)

pub returns-in-Restart-clause-device : goal.returns-in-Restart-clause-device
returns-in-Restart-clause-device g c = rw c.in-Restart.is (record {})

pub returns-in-Stop-clause-counts : goal.returns-in-Stop-clause-counts
returns-in-Stop-clause-counts g c = rw c.in-Stop.is c.stop-told.ensures.counts

pub returns-in-Crash-clause-counts : goal.returns-in-Crash-clause-counts
returns-in-Crash-clause-counts g c =
    let old = g.D.Disk.state c.args.running.filter.disk in
    let new = g.D.Disk.state c.cut-cut.result.disk in
    rw c.in-Crash.is (counts_by 0 (Ok c.plainly.result) old new (shown_counts _ _ old new c.plainly.ensures refl (cut_off old new c.cut-cut.ensures.powers.faults c.cut-cut.ensures.powers.armed c.cut-cut.ensures.powers.settings)))

pub returns-in-Restart-clause-counts : goal.returns-in-Restart-clause-counts
returns-in-Restart-clause-counts g c =
    let disk = g.D.Disk.state c.args.running.filter.disk in
    rw c.in-Restart.is (counts_by 0 (Ok c.restart-told.result) disk disk (shown_counts _ _ disk disk c.restart-told.ensures.told refl (stays disk)))

pub returns-in-Stop-clause-faults : goal.returns-in-Stop-clause-faults
returns-in-Stop-clause-faults g c = shown_faults _ _ _ _ c.stop-told.ensures.told refl (ap (λ p. g.A.Actor.acts.remote p) c.stop-told.ensures.actor)

pub returns-in-Crash-clause-faults : goal.returns-in-Crash-clause-faults
returns-in-Crash-clause-faults g c = shown_faults _ _ _ _ c.plainly.ensures refl (ap (λ p. g.A.Actor.acts.remote p) c.cut-cut.ensures.actor)

pub returns-in-Restart-clause-faults : goal.returns-in-Restart-clause-faults
returns-in-Restart-clause-faults g c = let n = g.A.Actor.acts.remote c.args.running.actor in shown_faults _ _ n n c.restart-told.ensures.told refl refl

pub returns-in-Stop-clause-whole : goal.returns-in-Stop-clause-whole
returns-in-Stop-clause-whole g c = on_whole g.A.Actor.acts g.D.Disk.state _ _ refl

pub returns-in-Crash-clause-whole : goal.returns-in-Crash-clause-whole
returns-in-Crash-clause-whole g c = cut_whole g.A.Actor.acts g.D.Disk.state _ _ c.cut-cut.ensures.whole

pub returns-in-Restart-clause-whole : goal.returns-in-Restart-clause-whole
returns-in-Restart-clause-whole g c = on_whole g.A.Actor.acts g.D.Disk.state _ _ refl

pub returns-in-Stop-clause-newest : goal.returns-in-Stop-clause-newest
returns-in-Stop-clause-newest g c = rw c.in-Stop.is (opens_none g.A.Actor.acts g.D.Disk.state _ _ _ (stop_is_none _))

pub returns-in-Crash-clause-newest : goal.returns-in-Crash-clause-newest
returns-in-Crash-clause-newest g c = rw c.in-Crash.is (opens_none g.A.Actor.acts g.D.Disk.state _ _ _ (crash_is_none _))

pub returns-in-Restart-clause-newest : goal.returns-in-Restart-clause-newest
returns-in-Restart-clause-newest g c = rw c.restart-told.ensures.told (record { newest = λ past s is restart whole. record {} })
