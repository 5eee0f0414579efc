use Rattle.cf_engine_messages.proofs.StaleReplies.{stale_by}
use Rattle.cf_engine_messages.proofs.staleness.is_stale.Goals as goal

pub returns : goal.returns
returns g c = stale_by g.S.Steps.sense c.args.s.now g.R.Remote.told c.args.e.now c.args.request.now c.args.reply.now c.in_ok-fitting.fitting c.in_ok-old.old c.either.result c.in_ok-fitting.ensures c.in_ok-old.ensures c.either.ensures
