use Rattle.std.proofs.Common.{◌≤◌, [], drop}
use Rattle.std.specs.Prelude.{IsTrue}
use Rattle.std.specs.List.{list_all}
use Rattle.cf_pair_run.specs.Led.{HasRun}
use Rattle.cf_pair_run.specs.UnderWay.{IsUnderWay}
use Rattle.cf_pair_run.specs.Owned.{is_playable}
use Rattle.cf_pair_run.proofs.plays.play.Given as goal

abbrev pub invariant-loop-event : goal.invariant-loop-event
invariant-loop-event g l =
    ((first second : g.row.D.Denot) (remote : g.row.R.Denot) → HasRun g.D.Disk.state g.R.Remote.told first second remote [] l.fn.world
    → IsUnderWay g.D.Disk.state g.R.Remote.told first second remote l.events (drop l.event-index l.events) l.waiting.items l.made (g.K.Sink.held l.fn.sink) (g.K.Sink.held l.sink) l.world)
    × IsTrue (list_all is_playable l.events)
    × (g.K.Sink.faults l.fn.sink ≤ g.K.Sink.faults l.sink)
