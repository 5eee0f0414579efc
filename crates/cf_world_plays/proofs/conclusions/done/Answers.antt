use Rattle.std.proofs.Common.{ap, refl}
use Rattle.std.specs.Prelude.{Err}
use Rattle.cf_world_plays.proofs.Concluded.{all_concluded, not_concluded}
use Rattle.cf_world_plays.proofs.conclusions.done.Goals as goal

pub returns-in-Ok-clause-writes : goal.returns-in-Ok-clause-writes
returns-in-Ok-clause-writes g c = λ disk first h.
    all_concluded g.D.Disk.state g.A.Actor.acts c.args.ending disk c.put.result.disk first c.put.result.actor c.args.text.now c.args.events.items (g.K.Sink.held c.args.sink.now) (g.K.Sink.held c.put.new.sink)
    c.requires.script c.requires.short c.play.new.world c.play.new.counts c.put.result.status (c.in-Ok.ensures.ok disk first h) (c.put.ensures.writes disk first)

pub returns-in-Err-clause-writes : goal.returns-in-Err-clause-writes
returns-in-Err-clause-writes g c = λ disk first h. rw c.early.ensures (
    not_concluded g.D.Disk.state g.A.Actor.acts c.args.ending disk c.finish-disk.result.0 first c.finish-disk.result.1 c.args.text.now c.args.events.items (g.K.Sink.held c.args.sink.now) (g.K.Sink.held c.args.sink.now)
    c.requires.script c.requires.short c.play.new.world c.in-Err.fail refl (λ e. c.in-Err.ensures.fault (ap Err e)) (c.in-Err.ensures.err disk first h) (c.finish-disk.ensures disk first))
