use Rattle.cf_model.specs.Arrows.{unit}
use Rattle.cf_pair_run.proofs.Turning.{turns_by}
use Rattle.cf_pair_run.proofs.turns.act.Goals as goal

pub returns : goal.returns
returns g c =
    turns_by g.R.Remote.told g.D.Disk.state c.args.device c.args.event.now c.args.resting c.args.remote unit c.apart-volume.result.0 c.apart-volume.result.1 c.new.result c.with_remote-actor.result.0 c.with_actor.result c.step-acted.result.0 c.step-acted.result.1
    c.passed-told.result c.apart-volume-2.result.0 c.apart-volume-2.result.1 c.with_remote-actor-2.result.1 c.with_remote-actor-2.result.0 c.with_actor-2.result c.into_inner.result
    c.apart-volume.ensures.rest c.apart-volume.ensures.actor c.new.ensures c.with_remote-actor.ensures.actor c.with_actor.ensures c.step-acted.ensures.steps c.step-acted.ensures.counts c.step-acted.ensures.device c.step-acted.ensures.faults
    c.apart-volume-2.ensures.rest c.apart-volume-2.ensures.actor c.with_remote-actor-2.ensures.actor c.with_remote-actor-2.ensures.back c.passed-told.ensures c.with_actor-2.ensures c.into_inner.ensures
