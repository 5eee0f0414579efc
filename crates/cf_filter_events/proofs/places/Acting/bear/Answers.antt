use Rattle.cf_filter_events.proofs.places.Acting.bear.Goals as goal

pub returns-in-On-clause-steps : goal.returns-in-On-clause-steps
returns-in-On-clause-steps g c = rw c.in-On.is c.device_on.ensures.steps

pub returns-in-On-clause-device : goal.returns-in-On-clause-device
returns-in-On-clause-device g c = rw c.in-On.is c.device_on.ensures.device

pub returns-in-On-clause-counts : goal.returns-in-On-clause-counts
returns-in-On-clause-counts g c = rw c.in-On.is c.device_on.ensures.counts

pub returns-in-On-clause-faults : goal.returns-in-On-clause-faults
returns-in-On-clause-faults g c = rw c.in-On.is c.device_on.ensures.faults

pub returns-in-On-clause-whole : goal.returns-in-On-clause-whole
returns-in-On-clause-whole g c = rw c.in-On.is c.device_on.ensures.whole

pub returns-in-On-clause-newest : goal.returns-in-On-clause-newest
returns-in-On-clause-newest g c = rw c.in-On.is c.device_on.ensures.newest

pub returns-in-Off-clause-steps : goal.returns-in-Off-clause-steps
returns-in-Off-clause-steps g c = rw c.in-Off.is c.device_off.ensures.steps

pub returns-in-Off-clause-device : goal.returns-in-Off-clause-device
returns-in-Off-clause-device g c = rw c.in-Off.is c.device_off.ensures.device

pub returns-in-Off-clause-counts : goal.returns-in-Off-clause-counts
returns-in-Off-clause-counts g c = rw c.in-Off.is c.device_off.ensures.counts

pub returns-in-Off-clause-faults : goal.returns-in-Off-clause-faults
returns-in-Off-clause-faults g c = rw c.in-Off.is c.device_off.ensures.faults

pub returns-in-Off-clause-whole : goal.returns-in-Off-clause-whole
returns-in-Off-clause-whole g c = rw c.in-Off.is (record { whole = λ past s off power whole. c.device_off.ensures.whole whole })

pub returns-in-Off-clause-newest : goal.returns-in-Off-clause-newest
returns-in-Off-clause-newest g c = rw c.in-Off.is c.device_off.ensures.newest
