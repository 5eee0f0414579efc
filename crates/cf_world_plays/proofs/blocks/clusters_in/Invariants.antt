use Rattle.std.proofs.Common.{◌≡◌, ◌+◌, drop, length, min}
use Rattle.cf_volume_points.specs.Clusters.{clusters_in_rows}
use Rattle.cf_world_plays.proofs.blocks.clusters_in.Given as goal

-- the clusters counted so far, with those of the rows that are left, are all
abbrev pub invariant-loop-row : goal.invariant-loop-row
invariant-loop-row l = min (l.clusters + length (clusters_in_rows (drop l.row-index l.rows))) 18446744073709551615 ≡ min (length (clusters_in_rows l.rows)) 18446744073709551615
