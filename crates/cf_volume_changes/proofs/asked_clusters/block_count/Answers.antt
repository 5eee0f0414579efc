use Rattle.std.proofs.Common.{arith}
use Rattle.cf_volume_changes.proofs.NotThere.{blocks_counted}
use Rattle.cf_volume_changes.proofs.asked_clusters.block_count.Goals as goal

pub returns : goal.returns
returns c = let e = blocks_counted c.args.bytes in record { counted = omega (arith, c.div_ceil.ensures, e); small = omega (arith, c.div_ceil.ensures, c.requires) }
