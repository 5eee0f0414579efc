use Rattle.std.proofs.Common.{◌≡◌}
use Rattle.cf_world_plays.specs.States.{used_blocks}
use Rattle.cf_world_plays.proofs.WorldRuns.{few_in, gives_text}
use Rattle.cf_world_plays.proofs.worlds.blocks_of.Goals as goal

pub returns : goal.returns
returns g c =
    gives_text g.D.Disk.state g.A.Actor.acts (λ s. c.used_blocks-blocks.result ≡ used_blocks s) c.args.acting c.in-Some.acting c.finish-disk.result.0 c.finish-disk.result.1 c.in-Some.is
    c.used_blocks-blocks.ensures c.finish-disk.ensures.lasts c.finish-disk.ensures.powers c.finish-disk.ensures.holds (few_in g.D.Disk.state g.A.Actor.acts g.met.D.Disk.reads_one c.in-Some.acting) c.finish-disk.ensures.disk c.finish-disk.ensures.actor
