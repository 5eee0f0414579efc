use Rattle.std.proofs.Common.{ℕ, Option, sym, subst}
use Rattle.cf_volume.proofs.Staged.{loaded, read_first, staged_after}
use Rattle.cf_volume_changes.specs.Laid.{HoldsIn}
use Rattle.cf_volume.proofs.stay.blocks.stage_block.Goals as goal

pub returns-clause-staged : goal.returns-clause-staged
returns-clause-staged g c = (
  c.lay_change.new.block,
  staged_after c.args.number c.lay_change.new.block (g.G.Ground.state c.args.ground.now) (g.G.Ground.state c.load.new.ground) (g.G.Ground.state c.put_block.new.ground) c.args.held.now c.put_block.new.held c.args.extents.now c.put_block.new.extents c.load.ensures.keeps c.in_ok-put_block.ensures.staged,
  λ i pin n means holds. c.in_ok-lay_change.ensures.holds i pin n means
      (loaded i.held c.args.number c.get-before.result (g.G.Ground.state c.args.ground.now).seen c.load.new.block c.in_ok-load.ensures.got
      (subst (λ (o : Option ℕ). HoldsIn (g.G.Ground.state c.args.ground.now).seen i.held c.args.number o) (sym c.get-before.ensures) holds)),
)

pub returns-clause-crash : goal.returns-clause-crash
returns-clause-crash g c = read_first (g.G.Ground.state c.args.ground.now) (g.G.Ground.state c.load.new.ground) (g.G.Ground.state c.put_block.new.ground) c.args.held.now c.load.ensures.keeps c.load.ensures.crash c.put_block.ensures.crash

pub returns-in_err-put_block-clause-crash : goal.returns-in_err-put_block-clause-crash
returns-in_err-put_block-clause-crash g c = read_first (g.G.Ground.state c.args.ground.now) (g.G.Ground.state c.load.new.ground) (g.G.Ground.state c.put_block.new.ground) c.args.held.now c.load.ensures.keeps c.load.ensures.crash c.put_block.ensures.crash
