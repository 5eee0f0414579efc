use Rattle.std.proofs.Common.{drop}
use Rattle.cf_volume_changes.specs.Ahead.{IsAhead}
use Rattle.cf_volume_changes.proofs.emptied_blocks.runs_past.Given as goal

abbrev pub invariant-loop-i : goal.invariant-loop-i
invariant-loop-i l = IsAhead l.place l.runs (drop l.i l.runs)
