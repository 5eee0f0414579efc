use Rattle.std.proofs.Common.{subst}
use Rattle.cf_engine.specs.Actors.{Syncing}
use Rattle.cf_engine.specs.Engines.{Does}
use Rattle.cf_filter_events.specs.declared.places.RunningOn.{RunningOn as Run}
use Rattle.cf_engine.proofs.engines.SyncEngine.event.Goals as goal

pub returns : goal.returns
returns g c = subst (λ (x : Run g.row.D.Denot (Syncing g.row.R.Denot)). Does g.D.Disk.state g.R.Remote.told c.args.event.now x c.act.result c.act.new.self) c.self.view_is c.act.ensures.steps
