use Rattle.std.proofs.Common.{◌≡◌, ◌<◌, ℕ, ◌+◌, suc, refl, arith, subst, ◌∙◌, sym, take, length, length-take}
use Rattle.cf_volume.proofs.CopySteps.{all_copied, copy_crash, copy_next, copy_ran, copy_room, copy_start, named_at}
use Rattle.cf_volume.proofs.Stagings.{ran_less, stop_later}
use Rattle.cf_volume.specs.Copies.{CopiesAll}
use Rattle.cf_volume.proofs.copy.clusters.copy_all.Goals as goal

pub loop-pair-init : goal.loop-pair-init
loop-pair-init g c = copy_start c.args.source.now (g.G.Ground.state c.args.ground.now) c.args.held.now c.args.extents.now c.requires.none

pub loop-pair-preserved : goal.loop-pair-preserved
loop-pair-preserved g c =
    let next : c.loop-pair.pair-index + 1 ≡ suc c.loop-pair.pair-index = omega arith in
    subst (λ (i : ℕ). CopiesAll c.args.source.now (take i c.args.source.now) (g.G.Ground.state c.args.ground.now) (g.G.Ground.state c.copy_block.new.ground) c.args.held.now c.copy_block.new.held c.copy_block.new.extents) (sym next)
    (copy_next c.args.source.now c.loop-pair.pair-index _ (g.G.Ground.state c.args.ground.now) (g.G.Ground.state c.loop-pair.ground) (g.G.Ground.state c.copy_block.new.ground) c.args.held.now c.loop-pair.held c.copy_block.new.held c.loop-pair.extents c.copy_block.new.extents
    c.loop-pair-test.true refl c.loop-pair.invariant c.in_ok-copy_block.ensures.staged c.copy_block.ensures.ran c.copy_block.ensures.crash)

pub returns-in_err-copy_block-clause-crash : goal.returns-in_err-copy_block-clause-crash
returns-in_err-copy_block-clause-crash g c =
    copy_crash c.args.source.now c.loop-pair.pair-index _ (g.G.Ground.state c.args.ground.now) (g.G.Ground.state c.loop-pair.ground) (g.G.Ground.state c.copy_block.new.ground) c.args.held.now c.loop-pair.held c.copy_block.new.held c.loop-pair.extents c.copy_block.new.extents
    c.loop-pair-test.true refl c.loop-pair.invariant c.copy_block.ensures.crash

pub returns-in_err-copy_block-clause-ran : goal.returns-in_err-copy_block-clause-ran
returns-in_err-copy_block-clause-ran g c =
    copy_ran c.args.source.now c.loop-pair.pair-index _ (g.G.Ground.state c.args.ground.now) (g.G.Ground.state c.loop-pair.ground) (g.G.Ground.state c.copy_block.new.ground) c.args.held.now c.loop-pair.held c.copy_block.new.held c.loop-pair.extents c.copy_block.new.extents
    c.loop-pair-test.true refl c.loop-pair.invariant c.copy_block.ensures.ran

pub returns-in_err-copy_block-clause-cause : goal.returns-in_err-copy_block-clause-cause
returns-in_err-copy_block-clause-cause g c = stop_later c.from_residual.result c.in_err-copy_block.field-0.0 (g.G.Ground.state c.args.ground.now) (g.G.Ground.state c.loop-pair.ground) (g.G.Ground.state c.copy_block.new.ground) c.from_residual.ensures.1 c.in_err-copy_block.ensures.cause c.loop-pair.invariant.ran.faults c.loop-pair.invariant.ran.calm

pub returns-in_err-copy_block-clause-long : goal.returns-in_err-copy_block-clause-long
returns-in_err-copy_block-clause-long g c = c.copy_block.ensures.long ∙ c.loop-pair.invariant.moves.long

pub returns-clause-copied : goal.returns-clause-copied
returns-clause-copied g c = all_copied c.args.source.now c.loop-pair.pair-index (g.G.Ground.state c.args.ground.now) (g.G.Ground.state c.loop-pair.ground) c.args.held.now c.loop-pair.held c.loop-pair.extents (omega (arith, c.loop-pair-test.false)) c.loop-pair.invariant

pub returns-clause-crash : goal.returns-clause-crash
returns-clause-crash g c = c.loop-pair.invariant.leaves

pub returns-clause-ran : goal.returns-clause-ran
returns-clause-ran g c = ran_less _ _ (g.G.Ground.state c.args.ground.now) (g.G.Ground.state c.loop-pair.ground) (omega (arith, length-take c.loop-pair.pair-index c.args.source.now)) c.loop-pair.invariant.ran

pub returns-clause-long : goal.returns-clause-long
returns-clause-long g c = c.loop-pair.invariant.moves.long

pub copy_block-requires-clause-free : goal.copy_block-requires-clause-free
copy_block-requires-clause-free g c = copy_room c.args.source.now c.loop-pair.pair-index (g.G.Ground.state c.args.ground.now) (g.G.Ground.state c.loop-pair.ground) c.args.held.now c.loop-pair.held c.loop-pair.extents c.loop-pair-test.true c.loop-pair.invariant c.requires.free

pub copy_block-requires-clause-room : goal.copy_block-requires-clause-room
copy_block-requires-clause-room g c = omega (arith, c.loop-pair.invariant.moves.size, c.loop-pair.invariant.moves.long, c.requires.room)

pub copy_block-requires-clause-inside : goal.copy_block-requires-clause-inside
copy_block-requires-clause-inside g c = c.loop-pair.invariant.inside

pub copy_block-requires-clause-cluster : goal.copy_block-requires-clause-cluster
copy_block-requires-clause-cluster g c = let h = named_at (λ (k : ℕ). k < length c.args.held.now) c.args.source.now c.loop-pair.pair-index (0, 0) c.requires.inside c.loop-pair-test.true in omega (arith, h, c.loop-pair.invariant.moves.long)
