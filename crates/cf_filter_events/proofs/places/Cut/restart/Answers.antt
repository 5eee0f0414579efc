use Rattle.std.proofs.Common.{refl, subst, sym}
use Rattle.cf_base.specs.declared.codes.CallError.TheVariants.{No}
use Rattle.cf_base.specs.declared.codes.Code.TheVariants.{NotAVolume}
use Rattle.cf_filter_events.proofs.Offs.{unfit_step}
use Rattle.cf_filter_events.proofs.Reopening.{failed_newest}
use Rattle.cf_filter_events.proofs.EventFaults.{shown_faults}
use Rattle.cf_journal.specs.Settled.{IsFitSize}
use Rattle.cf_filter_events.proofs.places.Cut.restart.Goals as goal

pub reopen-requires : goal.reopen-requires
reopen-requires g c = subst IsFitSize c.size.ensures (c.is_fit.ensures.fit c.if-not-is_fit.false)

pub returns-then-not-is_fit-clause-steps : goal.returns-then-not-is_fit-clause-steps
returns-then-not-is_fit-clause-steps g c = unfit_step g.A.Actor.acts g.D.Disk.state _ c.args.self _ _ g.met.D.Disk.reads_one (λ fit. c.is_fit.ensures.unfit c.if-not-is_fit.true (subst IsFitSize (sym c.size.ensures) fit))

pub returns-then-not-is_fit-clause-faults : goal.returns-then-not-is_fit-clause-faults
returns-then-not-is_fit-clause-faults g c = let n = g.A.Actor.acts.remote c.args.self.actor in shown_faults _ _ n n c.refused.ensures refl refl

pub returns-then-not-is_fit-clause-newest : goal.returns-then-not-is_fit-clause-newest
returns-then-not-is_fit-clause-newest g c = rw c.refused.ensures (failed_newest g.A.Provider.answers g.A.Actor.acts g.met.A.Actor.actor g.D.Disk.state c.args.self (No NotAVolume))
