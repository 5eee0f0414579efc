use Rattle.cf_engine.proofs.BesideSteps.{arrive_by}
use Rattle.cf_engine.proofs.actors.SyncActor.arrive.Goals as goal

pub returns : goal.returns
returns g c = arrive_by g.R.Remote.told c.args.message c.self.inside.engine c.arrive-told.new.self c.self.inside.next c.args.self.now c.arrive-told.result c.done.result c.new-notes.result c.arrive-told.new.notes c.answered.result c.self.view_is
    c.arrive-told.ensures.rest c.new-notes.ensures c.arrive-told.ensures.arrives c.done.ensures c.answered.ensures
