use Rattle.cf_engine.proofs.BesideSteps.{peer_by}
use Rattle.cf_engine.proofs.actors.SyncActor.peer.Goals as goal

pub returns : goal.returns
returns g c = peer_by g.R.Remote.told c.args.event.now c.self.inside.engine c.peer.new.self c.self.inside.next c.peer.new.next c.args.self.now c.peer.result c.self.view_is c.peer.ensures.rest c.peer.ensures.does
