use Rattle.std.proofs.Common.{◌≡◌, ◌≤◌, [], true}
use Rattle.std.specs.Prelude.{IsTrue, is_some}
use Rattle.std.specs.List.{list_all}
use Rattle.std.specs.Vec.Iter.{into_iter_items}
use Rattle.cf_model.specs.Events.{is_of}
use Rattle.cf_world_plays.specs.Led.{HasRunOn}
use Rattle.cf_world_plays.specs.Steps.{IsUnderWay}
use Rattle.cf_world_plays.proofs.plays.play.Given as goal

abbrev pub invariant-loop-event : goal.invariant-loop-event
invariant-loop-event g l =
    ((disk : g.row.D.Denot) (first : g.row.A.Denot) → HasRunOn g.D.Disk.state g.A.Actor.acts disk first [] l.fn.world → IsUnderWay g.D.Disk.state g.A.Actor.acts disk first l.fn.events.items (into_iter_items l.event-iterator) l.waiting.items l.made (g.K.Sink.held l.fn.sink) (g.K.Sink.held l.sink) l.world l.counts)
    × (is_some l.world ≡ true)
    × IsTrue (list_all (is_of g.A.Actor.acts.mode) (into_iter_items l.event-iterator))
    × (g.K.Sink.faults l.fn.sink ≤ g.K.Sink.faults l.sink)
