use Rattle.std.proofs.Common.{refl}
use Rattle.cf_world_plays.proofs.Concluded.{not_started}
use Rattle.cf_world_plays.proofs.conclusions.conclude.Goals as goal

pub returns-in-Ok-clause-writes : goal.returns-in-Ok-clause-writes
returns-in-Ok-clause-writes g c = c.done.ensures.writes c.args.disk c.args.actor c.in-Ok.ensures.ok

pub returns-in-Err-clause-writes : goal.returns-in-Err-clause-writes
returns-in-Err-clause-writes g c = rw c.unstarted.ensures (
    not_started g.D.Disk.state g.A.Actor.acts c.args.ending c.args.disk c.in-Err.disk c.args.actor c.in-Err.actor c.args.text.now c.args.events.items (g.K.Sink.held c.args.sink.now) (g.K.Sink.held c.args.sink.now)
    c.requires.script c.requires.short c.in-Err.fail refl c.in-Err.ensures.back c.in-Err.ensures.only c.in-Err.ensures.cause)
