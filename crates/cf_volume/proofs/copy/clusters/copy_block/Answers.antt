use Rattle.std.proofs.Common.{◌≡◌, ℕ, List, refl, subst}
use Rattle.cf_volume_points.specs.Staging.{StagesBlock}
use Rattle.cf_volume_points.specs.Standing.{cluster_on}
use Rattle.cf_volume.proofs.Staged.{read_first, staged_after}
use Rattle.cf_volume.proofs.copy.clusters.copy_block.Goals as goal

pub returns-clause-staged : goal.returns-clause-staged
returns-clause-staged g c =
    let same : c.load.new.block ≡ cluster_on (g.G.Ground.state c.args.ground.now).seen c.args.cluster = c.in_ok-load.ensures.got c.args.cluster refl in
    subst (λ (l : List ℕ). StagesBlock c.args.number l (g.G.Ground.state c.args.ground.now) (g.G.Ground.state c.put_block.new.ground) c.args.held.now c.put_block.new.held c.args.extents.now c.put_block.new.extents) same
    (staged_after c.args.number c.load.new.block (g.G.Ground.state c.args.ground.now) (g.G.Ground.state c.load.new.ground) (g.G.Ground.state c.put_block.new.ground) c.args.held.now c.put_block.new.held c.args.extents.now c.put_block.new.extents
    c.load.ensures.keeps c.in_ok-put_block.ensures.staged)

pub returns-clause-crash : goal.returns-clause-crash
returns-clause-crash g c = read_first (g.G.Ground.state c.args.ground.now) (g.G.Ground.state c.load.new.ground) (g.G.Ground.state c.put_block.new.ground) c.args.held.now c.load.ensures.keeps c.load.ensures.crash c.put_block.ensures.crash

pub returns-in_err-put_block-clause-crash : goal.returns-in_err-put_block-clause-crash
returns-in_err-put_block-clause-crash g c = read_first (g.G.Ground.state c.args.ground.now) (g.G.Ground.state c.load.new.ground) (g.G.Ground.state c.put_block.new.ground) c.args.held.now c.load.ensures.keeps c.load.ensures.crash c.put_block.ensures.crash
