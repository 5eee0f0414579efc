use Rattle.std.proofs.Common.{drop}
use Rattle.cf_volume_points.proofs.Droppings.{DropsFront}
use Rattle.cf_volume_points.specs.Staging.{names}
use Rattle.cf_volume_changes.proofs.removed_rows.drop_clusters.Given as goal

abbrev pub invariant-loop-pair : goal.invariant-loop-pair
invariant-loop-pair l = DropsFront (names l.pairs) (names (drop l.pair-index l.pairs)) l.fn.held l.held
