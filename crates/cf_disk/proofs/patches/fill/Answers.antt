use Rattle.std.proofs.Common.{◌≡◌, ℕ, ◌+◌, suc, arith}
use Rattle.cf_disk.proofs.FrontLaws.{set_more}
use Rattle.cf_disk.proofs.patches.fill.Goals as goal

pub loop-i-preserved : goal.loop-i-preserved
loop-i-preserved c =
    let i : ℕ = c.loop-i.i in
    let next : i + 1 ≡ suc i = omega arith in
    rw (c.loop-i.invariant, next) (set_more i c.args.value c.args.flags.now c.loop-i-test.true)
