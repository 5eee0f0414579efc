use Rattle.cf_engine.proofs.BesideSteps.{set_by}
use Rattle.cf_engine.proofs.actors.SyncActor.set_link.Goals as goal

pub returns : goal.returns
returns g c = set_by g.R.Remote.told c.args.inline c.self.inside.engine c.set_inline.new.self c.self.inside.next c.args.self.now c.plainly.result c.self.view_is c.set_inline.ensures c.plainly.ensures
