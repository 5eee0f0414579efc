use Rattle.std.proofs.Common.{arith, take, drop, length, ◌-◌, ◌≡◌}
use Rattle.std.proofs.Math.Seq.{take-length}
use Rattle.std.proofs.Common.{length-drop}
use Rattle.cf_io.proofs.Adding.{put_more}
use Rattle.cf_io.proofs.sinks.write_all.Goals as goal

pub loop-rest-preserved : goal.loop-rest-preserved
loop-rest-preserved g c =
    let rest = c.loop-rest.rest.now in
    let n = c.in_ok-count.count in
    let e : take (length rest - n) (drop n rest) ≡ drop n rest = rw (← length-drop n rest) (take-length (drop n rest)) in
    rw e (put_more _ _ _ _ _ _ c.loop-rest.invariant.0 c.in_ok-count.ensures.adds, omega (arith, c.loop-rest.invariant.1, c.in_ok-count.ensures.never_falls))
