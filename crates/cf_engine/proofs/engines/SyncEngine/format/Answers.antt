use Rattle.std.proofs.Common.{refl}
use Rattle.cf_engine.proofs.Opened.{opened_by}
use Rattle.cf_model.specs.State.{new_volume}
use Rattle.cf_volume_points.specs.Standing.{clusters_for}
use Rattle.cf_engine.proofs.engines.SyncEngine.format.Goals as goal

pub returns-in-Ok-clause-ok : goal.returns-in-Ok-clause-ok
returns-in-Ok-clause-ok g c = λ l linked past powers.
    opened_by g.D.Disk.state g.R.Remote.told c.args.disk c.in-Ok.filter c.on_filter.result c.args.link l past c.args.policy (new_volume (clusters_for (g.D.Disk.state c.args.disk))) c.requires c.in-Ok.ensures.runs refl c.in-Ok.ensures.ok c.on_filter.ensures linked powers
