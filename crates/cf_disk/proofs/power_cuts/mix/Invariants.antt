use Rattle.std.proofs.Common.{◌≡◌, drop}
use Rattle.cf_disk.specs.Images.{mixed, mixed_after, stirs}
use Rattle.cf_disk.proofs.power_cuts.mix.Given as goal

abbrev pub invariant-loop-i : goal.invariant-loop-i
invariant-loop-i l = record {
  mixed : mixed_after l.i l.s l.bytes l.synced l.pending ≡ mixed l.state l.fn.bytes l.synced l.pending;
  state : stirs l.s (drop l.i l.pending) ≡ stirs l.state l.pending;
}
