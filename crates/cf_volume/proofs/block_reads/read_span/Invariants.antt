use Rattle.std.proofs.Common.{◌-◌}
use Rattle.cf_volume.specs.Reads.{HasRead}
use Rattle.cf_volume.proofs.block_reads.read_span.Given as goal

abbrev pub invariant-loop-at : goal.invariant-loop-at
invariant-loop-at g l = HasRead l.extents l.fn.span.start l.end l.at l.bytes.items (g.G.Ground.state l.fn.ground) (g.G.Ground.state l.ground)

abbrev pub decreases-loop-at : goal.decreases-loop-at
decreases-loop-at g l = l.end - l.at
