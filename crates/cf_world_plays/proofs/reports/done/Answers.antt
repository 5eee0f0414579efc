use Rattle.cf_world_plays.proofs.Ends.{played_written}
use Rattle.cf_world_plays.proofs.reports.done.Goals as goal

pub returns-clause-writes : goal.returns-clause-writes
returns-clause-writes g c = λ disk first h.
    rw c.status_of.ensures (
    played_written g.D.Disk.state g.A.Actor.acts disk c.finish-disk.result.0 first c.finish-disk.result.1 c.args.text.now c.args.events.items (g.K.Sink.held c.args.sink.now) (g.K.Sink.held c.play-played.new.sink) c.play-played.new.world c.play-played.new.counts c.play-played.result
    c.requires.script c.requires.short (c.play-played.ensures.ok disk first h) (c.play-played.ensures.err disk first h) (c.finish-disk.ensures disk first))
