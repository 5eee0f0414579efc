use Rattle.std.proofs.Common.{◌≡◌, ◌++◌, replicate, drop}
use Rattle.cf_volume_blocks.proofs.overlays.zero.Given as goal

abbrev pub invariant-loop-i : goal.invariant-loop-i
invariant-loop-i l = l.bytes ≡ replicate l.i 0 ++ drop l.i l.fn.bytes
