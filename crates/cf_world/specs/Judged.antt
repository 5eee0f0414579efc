-- What the parts of a check write.
use Rattle.std.specs.Prelude.{◌≡◌, ◌⊎◌, ℕ, List, [], Option}
use Rattle.cf_base.specs.declared.events.Event.{Event}
use Rattle.cf_base.specs.declared.statuses.Status.{Status}
use Rattle.cf_base.specs.declared.statuses.Status.TheVariants as status
use Rattle.cf_check_model.specs.Judging.{IsVerdict}
use Rattle.cf_check_model.specs.declared.verdicts.Verdict.{Verdict}
use Rattle.cf_io.specs.Moves.{Adds, AddsFront}
use Rattle.cf_world.specs.Checks.{clusters, verdict_line, verdict_status}

-- The line was written, which this status reports, or a front of it.
abbrev pub PutsLine : List ℕ → Status → Option (List ℕ) → Option (List ℕ) → Status → Type 0
PutsLine line said old new status.SinkFault = AddsFront old new line
PutsLine line said old new status.OutOfMemory = AddsFront old new line
PutsLine line said old new end = (end ≡ said) × Adds old new line

-- The line of the right verdict was written, or memory ran out before there was a verdict, and nothing was written.
abbrev pub PutsVerdict : List Event → List ℕ → Option (List ℕ) → Option (List ℕ) → Status → Type 0
PutsVerdict events report old new end = ((end ≡ status.OutOfMemory) × Adds old new []) ⊎ ((v : Verdict) × IsVerdict events report clusters v × PutsLine (verdict_line v) (verdict_status v) old new end)
