use Rattle.std.proofs.Common.{length}
use Rattle.cf_volume_changes.proofs.PutBack.{TakesRecords}
use Rattle.cf_volume_changes.proofs.last_points.remove_records.Given as goal

abbrev pub invariant-loop-aux : goal.invariant-loop-aux
invariant-loop-aux l = TakesRecords l.items l.records l.made l.fn.records

abbrev pub decreases-loop-aux : goal.decreases-loop-aux
decreases-loop-aux l = length l.items
