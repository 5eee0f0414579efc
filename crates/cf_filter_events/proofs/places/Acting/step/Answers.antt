use Rattle.cf_filter_events.proofs.Counted.{counts_event}
use Rattle.cf_filter_events.proofs.EventFaults.{faults_always}
use Rattle.cf_filter_events.proofs.places.Acting.step.Goals as goal

pub returns-in-Device-clause-steps : goal.returns-in-Device-clause-steps
returns-in-Device-clause-steps g c = rw c.in-Device.is c.bear.ensures.steps

pub returns-in-Device-clause-device : goal.returns-in-Device-clause-device
returns-in-Device-clause-device g c = rw c.in-Device.is c.bear.ensures.device

pub returns-in-Device-clause-counts : goal.returns-in-Device-clause-counts
returns-in-Device-clause-counts g c = rw c.in-Device.is (counts_event _ _ _ _ _ _ c.bear.ensures.counts)

pub returns-in-Device-clause-faults : goal.returns-in-Device-clause-faults
returns-in-Device-clause-faults g c = faults_always _ _ _ _ _ c.bear.ensures.faults

pub returns-in-Device-clause-newest : goal.returns-in-Device-clause-newest
returns-in-Device-clause-newest g c = rw c.in-Device.is c.bear.ensures.newest
