use Rattle.std.proofs.Common.{◌≡◌, ◌+◌, ◌/◌, ◌%◌, ◌≤◌, refl, sym, ◌∙◌, ap, subst, arith, length, ℕ, take, drop, ◌++◌}
use Rattle.cf_clusters.specs.Area.{place}
use Rattle.cf_volume.proofs.FileReads.{read_none, read_more, reads_keep, reads_leave}
use Rattle.cf_volume.proofs.Stagings.{ran_then, stop_later}
use Rattle.cf_volume_points.specs.Standing.{cluster_on}
use Rattle.cf_volume.specs.Reads.{HasRead}
use Rattle.std.specs.Option.{ForSome}
use Rattle.cf_volume.proofs.block_reads.read_span.Goals as goal

pub loop-at-init : goal.loop-at-init
loop-at-init g c =
    subst (λ bytes. HasRead c.args.extents.now c.args.span.start (c.args.span.start + c.args.span.len) c.args.span.start bytes (g.G.Ground.state c.args.ground.now) (g.G.Ground.state c.args.ground.now)) (sym c.in_ok-bytes.ensures.items)
    (read_none c.args.extents.now c.args.span.start (c.args.span.start + c.args.span.len) (g.G.Ground.state c.args.ground.now) (omega arith))

pub loop-at-preserved : goal.loop-at-preserved
loop-at-preserved g c =
    read_more c.args.extents.now c.args.span.start (c.args.span.start + c.args.span.len) c.loop-at.at c.min-next.result (c.loop-at.at / 4096) (c.loop-at.at % 4096) c.loop-at.bytes.items c.extend_from_slice.new.self.items c.load.new.block
    (g.G.Ground.state c.args.ground.now) (g.G.Ground.state c.loop-at.ground) (g.G.Ground.state c.load.new.ground) c.loop-at.invariant c.load.ensures.keeps c.load.ensures.crash c.load.ensures.ran
    (omega (arith, c.min-next.ensures, c.loop-at-test.true)) (omega (arith, c.min-next.ensures)) (omega (arith, c.min-next.ensures)) refl refl c.load.array_long (subst (λ cluster. ForSome cluster (λ k. c.load.new.block ≡ cluster_on (g.G.Ground.state c.loop-at.ground).seen k)) c.get.ensures c.in_ok-load.ensures.got) (c.in_ok-extend_from_slice.ensures.items ∙ ap (λ (n : ℕ). c.loop-at.bytes.items ++ take n (drop (c.loop-at.at % 4096) c.load.new.block)) (omega arith))

pub returns-clause-bytes : goal.returns-clause-bytes
returns-clause-bytes g c =
    let at_end : c.loop-at.at ≡ c.args.span.start + c.args.span.len = omega (arith, c.loop-at.invariant.high, c.loop-at-test.false) in
    subst (λ bytes. HasRead c.args.extents.now c.args.span.start (c.args.span.start + c.args.span.len) (c.args.span.start + c.args.span.len) bytes (g.G.Ground.state c.args.ground.now) (g.G.Ground.state c.loop-at.ground)) (sym c.from_vec.ensures)
    (subst (λ at. HasRead c.args.extents.now c.args.span.start (c.args.span.start + c.args.span.len) at c.loop-at.bytes.items (g.G.Ground.state c.args.ground.now) (g.G.Ground.state c.loop-at.ground)) at_end c.loop-at.invariant)

pub load-requires-clause-room : goal.load-requires-clause-room
load-requires-clause-room g c = subst (λ n. place (length c.args.held.now) ≤ n) (sym c.loop-at.invariant.ran.size) c.requires.room

pub returns-in_err-load-clause-keeps : goal.returns-in_err-load-clause-keeps
returns-in_err-load-clause-keeps g c = reads_keep c.args.extents.now c.args.span.start (c.args.span.start + c.args.span.len) c.loop-at.at 0 0 0 c.loop-at.bytes.items c.loop-at.bytes.items c.loop-at.bytes.items (g.G.Ground.state c.args.ground.now) (g.G.Ground.state c.loop-at.ground) (g.G.Ground.state c.load.new.ground) c.loop-at.invariant c.load.ensures.keeps c.load.ensures.crash

pub returns-in_err-load-clause-crash : goal.returns-in_err-load-clause-crash
returns-in_err-load-clause-crash g c = reads_leave c.args.extents.now c.args.span.start (c.args.span.start + c.args.span.len) c.loop-at.at 0 0 0 c.loop-at.bytes.items c.loop-at.bytes.items c.loop-at.bytes.items (g.G.Ground.state c.args.ground.now) (g.G.Ground.state c.loop-at.ground) (g.G.Ground.state c.load.new.ground) c.loop-at.invariant c.load.ensures.keeps c.load.ensures.crash

pub returns-in_err-load-clause-ran : goal.returns-in_err-load-clause-ran
returns-in_err-load-clause-ran g c = ran_then 0 0 (g.G.Ground.state c.args.ground.now) (g.G.Ground.state c.loop-at.ground) (g.G.Ground.state c.load.new.ground) c.loop-at.invariant.ran c.load.ensures.ran

pub returns-in_err-load-clause-cause : goal.returns-in_err-load-clause-cause
returns-in_err-load-clause-cause g c = stop_later c.from_residual-in_err-load.result c.in_err-load.field-0.0 (g.G.Ground.state c.args.ground.now) (g.G.Ground.state c.loop-at.ground) (g.G.Ground.state c.load.new.ground) c.from_residual-in_err-load.ensures.1 c.in_err-load.ensures.cause c.loop-at.invariant.ran.faults c.loop-at.invariant.ran.calm

pub returns-in_err-extend_from_slice-clause-keeps : goal.returns-in_err-extend_from_slice-clause-keeps
returns-in_err-extend_from_slice-clause-keeps g c = reads_keep c.args.extents.now c.args.span.start (c.args.span.start + c.args.span.len) c.loop-at.at 0 0 0 c.loop-at.bytes.items c.loop-at.bytes.items c.loop-at.bytes.items (g.G.Ground.state c.args.ground.now) (g.G.Ground.state c.loop-at.ground) (g.G.Ground.state c.load.new.ground) c.loop-at.invariant c.load.ensures.keeps c.load.ensures.crash

pub returns-in_err-extend_from_slice-clause-crash : goal.returns-in_err-extend_from_slice-clause-crash
returns-in_err-extend_from_slice-clause-crash g c = reads_leave c.args.extents.now c.args.span.start (c.args.span.start + c.args.span.len) c.loop-at.at 0 0 0 c.loop-at.bytes.items c.loop-at.bytes.items c.loop-at.bytes.items (g.G.Ground.state c.args.ground.now) (g.G.Ground.state c.loop-at.ground) (g.G.Ground.state c.load.new.ground) c.loop-at.invariant c.load.ensures.keeps c.load.ensures.crash

pub returns-in_err-extend_from_slice-clause-ran : goal.returns-in_err-extend_from_slice-clause-ran
returns-in_err-extend_from_slice-clause-ran g c = ran_then 0 0 (g.G.Ground.state c.args.ground.now) (g.G.Ground.state c.loop-at.ground) (g.G.Ground.state c.load.new.ground) c.loop-at.invariant.ran c.load.ensures.ran

pub returns-clause-keeps : goal.returns-clause-keeps
returns-clause-keeps g c = c.loop-at.invariant.keeps

pub returns-clause-crash : goal.returns-clause-crash
returns-clause-crash g c = c.loop-at.invariant.leaves

pub returns-clause-ran : goal.returns-clause-ran
returns-clause-ran g c = c.loop-at.invariant.ran
