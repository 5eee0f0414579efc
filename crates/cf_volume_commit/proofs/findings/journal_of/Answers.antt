use Rattle.std.proofs.Common.{subst, sym}
use Rattle.cf_volume_commit.proofs.Refusals.{journal_cause}
use Rattle.cf_volume_commit.specs.Damages.{IsFindCause}
use Rattle.cf_volume_commit.specs.declared.damages.FindError.{FindError}
use Rattle.cf_volume_commit.proofs.findings.journal_of.Goals as goal

pub returns-in-Err-clause-cause : goal.returns-in-Err-clause-cause
returns-in-Err-clause-cause g c =
    subst (λ (e : FindError). IsFindCause (g.D.Disk.state c.args.disk.now) (g.D.Disk.state c.read.new.disk) e) (sym c.refused.ensures)
    (journal_cause c.in-Err.why c.read.result (g.D.Disk.state c.args.disk.now) (g.D.Disk.state c.read.new.disk) c.in-Err.is c.read.ensures.none c.in-Err.ensures.cause)
