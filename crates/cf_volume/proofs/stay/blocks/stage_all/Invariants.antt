use Rattle.std.proofs.Common.{take}
use Rattle.cf_volume_changes.specs.Laid.{StagesAll}
use Rattle.cf_volume.proofs.stay.blocks.stage_all.Given as goal

abbrev pub invariant-loop-number : goal.invariant-loop-number
invariant-loop-number g l = StagesAll l.change l.row l.blocks (take l.number-index l.blocks) (g.G.Ground.state l.fn.ground) (g.G.Ground.state l.ground) l.fn.held l.held l.fn.extents l.extents
