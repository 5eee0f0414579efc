use Rattle.std.proofs.Common.{◌≡◌, ◌++◌, replicate, drop}
use Rattle.cf_disk.proofs.patches.fill.Given as goal

abbrev pub invariant-loop-i : goal.invariant-loop-i
invariant-loop-i l = l.flags ≡ replicate l.i l.value ++ drop l.i l.fn.flags
