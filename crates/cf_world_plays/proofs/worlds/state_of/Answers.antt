use Rattle.std.proofs.Common.{◌≡◌}
use Rattle.std.specs.Prelude.{IfOk}
use Rattle.cf_world_plays.specs.States.{state_text}
use Rattle.cf_world_plays.proofs.WorldRuns.{few_in, gives_text}
use Rattle.cf_world_plays.proofs.worlds.state_of.Goals as goal

pub returns : goal.returns
returns g c =
    gives_text g.D.Disk.state g.A.Actor.acts (λ s. IfOk c.state_text-text.result (λ b. b ≡ state_text s)) c.args.acting c.in-Some.acting c.finish-disk.result.0 c.finish-disk.result.1 c.in-Some.is
    c.state_text-text.ensures c.finish-disk.ensures.lasts c.finish-disk.ensures.powers c.finish-disk.ensures.holds (few_in g.D.Disk.state g.A.Actor.acts g.met.D.Disk.reads_one c.in-Some.acting) c.finish-disk.ensures.disk c.finish-disk.ensures.actor
