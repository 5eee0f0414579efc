use Rattle.std.proofs.Common.{ap, refl}
use Rattle.cf_filter_events.specs.Stepped.{whole_of}
use Rattle.cf_filter_events.proofs.Counted.{failed_counts, opened_counts, ran_on}
use Rattle.cf_filter_events.proofs.EventFaults.{failed_faults, silent_faults}
use Rattle.cf_filter_events.proofs.Reopening.{failed_newest, failed_step, opened_newest, opened_step}
use Rattle.cf_filter_events.proofs.places.Cut.reopen.Goals as goal

pub returns-in-Ok-clause-steps : goal.returns-in-Ok-clause-steps
returns-in-Ok-clause-steps g c =
    opened_step g.A.Provider.answers g.A.Actor.acts g.met.A.Actor.actor g.D.Disk.state c.args.self c.in-Ok.filter c.reopened.result.0 c.reopened.result.1 (g.met.D.Disk.reads_one c.args.self.disk) c.in-Ok.ensures.ok c.in-Ok.ensures.more c.in-Ok.ensures.runs c.reopened.ensures.on c.reopened.ensures.opens c.reopened.ensures.told

pub returns-in-Err-clause-steps : goal.returns-in-Err-clause-steps
returns-in-Err-clause-steps g c =
    rw c.refused_by.ensures (failed_step g.A.Provider.answers g.A.Actor.acts g.met.A.Actor.actor g.D.Disk.state c.args.self _ c.in-Err.fail (g.met.D.Disk.reads_one c.args.self.disk) refl refl refl c.in-Err.ensures.runs_back c.in-Err.ensures.crash_back c.in-Err.ensures.only c.in-Err.ensures.none c.in-Err.ensures.last c.in-Err.ensures.unwritten)

pub returns-in-Ok-clause-counts : goal.returns-in-Ok-clause-counts
returns-in-Ok-clause-counts g c = opened_counts g.A.Actor.acts g.D.Disk.state c.args.self.disk c.in-Ok.filter _ _ c.in-Ok.ensures.runs c.reopened.ensures.on c.reopened.ensures.plain

pub returns-in-Err-clause-counts : goal.returns-in-Err-clause-counts
returns-in-Err-clause-counts g c = rw c.refused_by.ensures (failed_counts c.in-Err.fail (g.D.Disk.state c.args.self.disk) (g.D.Disk.state c.in-Err.disk) (ran_on (g.D.Disk.state c.args.self.disk) (g.D.Disk.state c.in-Err.disk) c.in-Err.ensures.runs_back) c.in-Err.ensures.only c.in-Err.ensures.cause)

pub returns-in-Ok-clause-faults : goal.returns-in-Ok-clause-faults
returns-in-Ok-clause-faults g c = silent_faults c.reopened.result.1 _ _ c.reopened.ensures.quiet c.reopened.ensures.same

pub returns-in-Err-clause-faults : goal.returns-in-Err-clause-faults
returns-in-Err-clause-faults g c = rw c.refused_by.ensures (failed_faults c.in-Err.fail (g.A.Actor.acts.remote c.args.self.actor) c.in-Err.ensures.only)

pub returns-in-Ok-clause-whole : goal.returns-in-Ok-clause-whole
returns-in-Ok-clause-whole g c = λ whole. ap whole_of c.reopened.ensures.on

pub returns-in-Ok-clause-newest : goal.returns-in-Ok-clause-newest
returns-in-Ok-clause-newest g c =
    opened_newest g.A.Provider.answers g.A.Actor.acts g.met.A.Actor.actor g.D.Disk.state c.args.self c.in-Ok.filter c.reopened.result.1 (g.met.D.Disk.reads_one c.args.self.disk) c.in-Ok.ensures.ok c.reopened.ensures.told

pub returns-in-Err-clause-newest : goal.returns-in-Err-clause-newest
returns-in-Err-clause-newest g c = rw c.refused_by.ensures (failed_newest g.A.Provider.answers g.A.Actor.acts g.met.A.Actor.actor g.D.Disk.state c.args.self c.in-Err.fail)
