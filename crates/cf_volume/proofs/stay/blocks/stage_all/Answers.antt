use Rattle.std.proofs.Common.{◌≡◌, ℕ, ◌+◌, suc, refl, arith, subst, ◌∙◌, sym, take, length-take}
use Rattle.cf_volume.proofs.Stagings.{all_staged, room_left, stage_crash, stage_next, stage_ran, stage_start, stop_later, ran_less}
use Rattle.cf_volume_changes.specs.Laid.{StagesAll}
use Rattle.cf_volume.proofs.stay.blocks.stage_all.Goals as goal

pub loop-number-init : goal.loop-number-init
loop-number-init g c = stage_start c.args.change.now c.args.row.now c.args.blocks.now (g.G.Ground.state c.args.ground.now) c.args.held.now c.args.extents.now c.requires.inside

pub loop-number-preserved : goal.loop-number-preserved
loop-number-preserved g c =
    let next : c.loop-number.number-index + 1 ≡ suc c.loop-number.number-index = omega arith in
    let st = c.in_ok-stage_block.ensures.staged in
    subst (λ (i : ℕ). StagesAll c.args.change.now c.args.row.now c.args.blocks.now (take i c.args.blocks.now) (g.G.Ground.state c.args.ground.now) (g.G.Ground.state c.stage_block.new.ground) c.args.held.now c.stage_block.new.held c.args.extents.now c.stage_block.new.extents) (sym next)
    (stage_next c.args.change.now c.args.row.now c.args.blocks.now c.loop-number.number-index _ (g.G.Ground.state c.args.ground.now) (g.G.Ground.state c.loop-number.ground) (g.G.Ground.state c.stage_block.new.ground) c.args.held.now c.loop-number.held c.stage_block.new.held c.args.extents.now c.loop-number.extents c.stage_block.new.extents
    c.loop-number-test.true refl c.loop-number.invariant st.0 st.1 st.2 c.stage_block.ensures.ran c.stage_block.ensures.crash)

pub returns-in_err-stage_block-clause-crash : goal.returns-in_err-stage_block-clause-crash
returns-in_err-stage_block-clause-crash g c =
    stage_crash c.args.change.now c.args.row.now c.args.blocks.now c.loop-number.number-index _ (g.G.Ground.state c.args.ground.now) (g.G.Ground.state c.loop-number.ground) (g.G.Ground.state c.stage_block.new.ground) c.args.held.now c.loop-number.held c.stage_block.new.held c.args.extents.now c.loop-number.extents c.stage_block.new.extents
    c.loop-number-test.true refl c.loop-number.invariant c.stage_block.ensures.crash

pub returns-in_err-stage_block-clause-ran : goal.returns-in_err-stage_block-clause-ran
returns-in_err-stage_block-clause-ran g c =
    stage_ran c.args.change.now c.args.row.now c.args.blocks.now c.loop-number.number-index _ (g.G.Ground.state c.args.ground.now) (g.G.Ground.state c.loop-number.ground) (g.G.Ground.state c.stage_block.new.ground) c.args.held.now c.loop-number.held c.stage_block.new.held c.args.extents.now c.loop-number.extents c.stage_block.new.extents
    c.loop-number-test.true refl c.loop-number.invariant c.stage_block.ensures.ran

pub returns-in_err-stage_block-clause-cause : goal.returns-in_err-stage_block-clause-cause
returns-in_err-stage_block-clause-cause g c = stop_later c.from_residual.result c.in_err-stage_block.field-0.0 (g.G.Ground.state c.args.ground.now) (g.G.Ground.state c.loop-number.ground) (g.G.Ground.state c.stage_block.new.ground) c.from_residual.ensures.1 c.in_err-stage_block.ensures.cause c.loop-number.invariant.ran.faults c.loop-number.invariant.ran.calm

pub returns-in_err-stage_block-clause-long : goal.returns-in_err-stage_block-clause-long
returns-in_err-stage_block-clause-long g c = c.stage_block.ensures.long ∙ c.loop-number.invariant.moves.long

pub returns-clause-staged : goal.returns-clause-staged
returns-clause-staged g c = all_staged c.args.change.now c.args.row.now c.args.blocks.now c.loop-number.number-index (g.G.Ground.state c.args.ground.now) (g.G.Ground.state c.loop-number.ground) c.args.held.now c.loop-number.held c.args.extents.now c.loop-number.extents (omega (arith, c.loop-number-test.false)) c.loop-number.invariant

pub returns-clause-crash : goal.returns-clause-crash
returns-clause-crash g c = c.loop-number.invariant.leaves

pub returns-clause-ran : goal.returns-clause-ran
returns-clause-ran g c = ran_less _ _ (g.G.Ground.state c.args.ground.now) (g.G.Ground.state c.loop-number.ground) (omega (arith, length-take c.loop-number.number-index c.args.blocks.now)) c.loop-number.invariant.ran

pub returns-clause-long : goal.returns-clause-long
returns-clause-long g c = c.loop-number.invariant.moves.long

pub stage_block-requires-clause-free : goal.stage_block-requires-clause-free
stage_block-requires-clause-free g c = room_left c.args.change.now c.args.row.now c.args.blocks.now c.loop-number.number-index (g.G.Ground.state c.args.ground.now) (g.G.Ground.state c.loop-number.ground) c.args.held.now c.loop-number.held c.args.extents.now c.loop-number.extents c.loop-number-test.true c.loop-number.invariant c.requires.free

pub stage_block-requires-clause-room : goal.stage_block-requires-clause-room
stage_block-requires-clause-room g c = omega (arith, c.loop-number.invariant.moves.size, c.loop-number.invariant.moves.long, c.requires.room)

pub stage_block-requires-clause-inside : goal.stage_block-requires-clause-inside
stage_block-requires-clause-inside g c = c.loop-number.invariant.inside
