use Rattle.cf_world_devices.proofs.Adding.{adds_nothing}
use Rattle.cf_world_plays.proofs.Concluded.{unfit_as}
use Rattle.cf_world.proofs.scripts.started.Goals as goal

pub returns-then-not-is_fit-clause-writes : goal.returns-then-not-is_fit-clause-writes
returns-then-not-is_fit-clause-writes g c =
    unfit_as g.D.Disk.state g.R.Remote.told c.args.mode c.args.disk c.args.remote c.args.text.now (g.K.Sink.held c.args.sink.now) (g.K.Sink.held c.args.sink.now) c.args.output c.args.disk c.args.remote (c.args.events.items, c.requires.script) (adds_nothing _)

pub returns-in-Replay-clause-writes : goal.returns-in-Replay-clause-writes
returns-in-Replay-clause-writes g c = rw c.in-Replay.is c.replayed.ensures.writes

pub returns-in-Filter-clause-writes : goal.returns-in-Filter-clause-writes
returns-in-Filter-clause-writes g c = rw (c.in-Filter.is, c.requires.report c.in-Filter.is) c.filtered.ensures.writes
