use Rattle.std.proofs.Common.{arith}
use Rattle.cf_volume_image.proofs.part_writes.next_count.Goals as goal

pub returns-then-count-eq4294967295 : goal.returns-then-count-eq4294967295
returns-then-count-eq4294967295 c = omega (arith, c.if-count-eq4294967295.true)

pub returns-else-count-eq4294967295 : goal.returns-else-count-eq4294967295
returns-else-count-eq4294967295 c = omega (arith, c.if-count-eq4294967295.false, c.ranges.count.fits)
