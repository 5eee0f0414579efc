use Rattle.cf_filter.proofs.Drained.{call_ended}
use Rattle.cf_filter.proofs.host_steps.end_call.Goals as goal

pub returns : goal.returns
returns g c = call_ended g.G.Ground.state c.args.shown _ c.args.filter.now _ c.end_call.ensures.answer c.end_call.ensures.desk
