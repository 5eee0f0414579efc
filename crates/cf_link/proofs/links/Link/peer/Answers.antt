use Rattle.cf_link.proofs.PeerLinks.{peer_does, peer_stops}
use Rattle.cf_link.proofs.links.Link.peer.Goals as goal

pub returns-clause-does : goal.returns-clause-does
returns-clause-does g c = peer_does g.R.Remote.told c.args.e.now c.args.next.now c.self.inside.net c.self.inside.remote c.self.inside.inline c.args.self.now c.self.view_is c.peer.new.remote c.peer.new.next c.peer.result c.peer.ensures

pub returns-clause-err : goal.returns-clause-err
returns-clause-err g c = peer_stops g.R.Remote.told c.args.e.now c.args.next.now c.self.inside.net c.self.inside.remote c.self.inside.inline c.args.self.now c.self.view_is c.peer.new.remote c.peer.new.next c.peer.result c.peer.ensures
