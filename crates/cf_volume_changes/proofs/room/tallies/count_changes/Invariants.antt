use Rattle.std.proofs.Common.{drop}
use Rattle.cf_model.specs.State.{Volume}
use Rattle.cf_volume_changes.specs.Tallies.{Counts}
use Rattle.cf_volume_changes.proofs.room.tallies.count_changes.Given as goal

abbrev pub invariant-loop-change : goal.invariant-loop-change
invariant-loop-change l = (v : Volume) → Counts l.contents l.limit l.fn.so_far l.list l.list v → Counts l.contents l.limit l.so_far (drop l.change-index l.list) l.list v
