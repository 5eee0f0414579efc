use Rattle.cf_world_plays.proofs.Concluded.{refused_as}
use Rattle.cf_world.proofs.scripts.scripted.Goals as goal

pub returns-in-Err-clause-writes : goal.returns-in-Err-clause-writes
returns-in-Err-clause-writes g c =
    refused_as g.D.Disk.state g.R.Remote.told c.args.mode c.args.disk c.args.remote c.args.text.now (g.K.Sink.held c.args.sink.now) (g.K.Sink.held c.refuse.new.sink) c.args.output c.refuse.result c.refuse.ensures.writes
