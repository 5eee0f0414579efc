use Rattle.std.proofs.Common.{refl}
use Rattle.cf_model.specs.Peers.{peer_event}
use Rattle.cf_remote.specs.LookUps.{finish}
use Rattle.cf_remote.proofs.PeerAnswers.{ended_does, planned_does}
use Rattle.cf_remote.proofs.peers.peer.Goals as goal

pub returns-in-Ok : goal.returns-in-Ok
returns-in-Ok g c = planned_does (peer_event c.args.e.now) c.args.next.now (g.R.Remote.told c.args.remote.now) c.in-Ok.plan (g.R.Remote.told c.plan.new.remote) c.finish.result c.finish.new.next (g.R.Remote.told c.finish.new.remote)
    (λ s st. c.in-Ok.ensures.plans c.args.next.now s refl st) c.finish.ensures

pub returns-in-Err : goal.returns-in-Err
returns-in-Err g c = ended_does (peer_event c.args.e.now) finish c.args.next.now (g.R.Remote.told c.args.remote.now) c.in-Err.stop c.end.result c.end.new.next (g.R.Remote.told c.plan.new.remote)
    (λ s st. c.in-Err.ensures.plans c.args.next.now s refl st) c.end.ensures
