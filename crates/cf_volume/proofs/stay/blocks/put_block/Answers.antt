use Rattle.std.proofs.Common.{length, ap, ◌∙◌}
use Rattle.cf_volume_points.proofs.Stages.{length-staged}
use Rattle.cf_volume.proofs.Staged.{staged_block}
use Rattle.cf_volume.proofs.stay.blocks.put_block.Goals as goal

pub returns-in_err-put_extent-in-Ok-clause-long : goal.returns-in_err-put_extent-in-Ok-clause-long
returns-in_err-put_extent-in-Ok-clause-long g c = ap length c.in-Ok.ensures.uses ∙ length-staged c.in-Ok.cluster c.get-before.result c.args.held.now

pub returns-in_ok-put_extent-in-Ok-clause-staged : goal.returns-in_ok-put_extent-in-Ok-clause-staged
returns-in_ok-put_extent-in-Ok-clause-staged g c =
    staged_block c.args.number c.args.block.now (g.G.Ground.state c.args.ground.now) (g.G.Ground.state c.stage.new.self) c.args.held.now c.stage.new.held c.args.extents.now c.put_extent.new.extents
    c.in-Ok.cluster c.get-before.result c.get-before.ensures c.in-Ok.ensures.was_free c.in-Ok.ensures.uses c.in_ok-put_extent-in-Ok.ensures.puts c.put_extent.ensures.before c.put_extent.ensures.rising c.stage.ensures.ran.size c.in-Ok.ensures.same c.in-Ok.ensures.wrote

pub returns-in_ok-put_extent-in-Ok-clause-long : goal.returns-in_ok-put_extent-in-Ok-clause-long
returns-in_ok-put_extent-in-Ok-clause-long g c = ap length c.in-Ok.ensures.uses ∙ length-staged c.in-Ok.cluster c.get-before.result c.args.held.now
