use Rattle.cf_engine_messages.proofs.StaleReplies.{idle_by}
use Rattle.cf_engine_messages.proofs.staleness.is_idle.Goals as goal

pub returns : goal.returns
returns g c = idle_by g.S.Steps.sense c.args.s.now c.args.key c.requests.result.now c.ask.result c.is_none.result c.requests.ensures.means c.ask.ensures c.is_none.ensures
