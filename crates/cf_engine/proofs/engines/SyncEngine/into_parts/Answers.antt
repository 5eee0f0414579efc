use Rattle.std.proofs.Common.{◌∙◌, ap}
use Rattle.cf_engine.specs.Actors.{Syncing}
use Rattle.cf_filter_events.specs.declared.places.RunningOn.{RunningOn as Run}
use Rattle.cf_engine.proofs.Opened.{disk_back, link_back}
use Rattle.cf_engine.proofs.engines.SyncEngine.into_parts.Goals as goal

pub returns-clause-lasts : goal.returns-clause-lasts
returns-clause-lasts g c = λ past s is image may.
    disk_back g.D.Disk.state g.R.Remote.told past c.args.self c.into_disk.result s is (c.into_disk.ensures ∙ ap (λ (x : Run g.row.D.Denot (Syncing g.row.R.Denot)). x.filter.disk) c.self.view_is) image may

pub returns-clause-link : goal.returns-clause-link
returns-clause-link g c = λ past s is.
    link_back g.D.Disk.state g.R.Remote.told past c.args.self c.into_link.result s is (c.into_link.ensures ∙ ap (λ (x : Run g.row.D.Denot (Syncing g.row.R.Denot)). x.actor.engine.agent.link) c.self.view_is)
