use Rattle.std.proofs.Common.{take}
use Rattle.cf_volume.specs.Copies.{CopiesAll}
use Rattle.cf_volume.proofs.copy.clusters.copy_all.Given as goal

abbrev pub invariant-loop-pair : goal.invariant-loop-pair
invariant-loop-pair g l = CopiesAll l.source (take l.pair-index l.source) (g.G.Ground.state l.fn.ground) (g.G.Ground.state l.ground) l.fn.held l.held l.extents
