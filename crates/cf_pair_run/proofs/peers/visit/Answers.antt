use Rattle.cf_pair_run.proofs.Turning.{visits_by}
use Rattle.cf_pair_run.proofs.peers.visit.Goals as goal

pub returns : goal.returns
returns g c =
    visits_by g.R.Remote.told c.args.event.now c.args.third c.args.remote c.new.result c.with_remote-actor.result.0 c.peer-told.new.self c.peer-told.result c.passed-told.result c.with_remote-actor-2.result.0 c.with_remote-actor-2.result.1 c.into_inner.result
    c.new.ensures c.with_remote-actor.ensures.actor c.peer-told.ensures c.with_remote-actor-2.ensures.actor c.with_remote-actor-2.ensures.back c.passed-told.ensures c.into_inner.ensures
