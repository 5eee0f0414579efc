use Rattle.cf_filter_calls.proofs.Executed.{ask_reads}
use Rattle.cf_filter_calls.proofs.operations.ask_at.Goals as goal

pub returns : goal.returns
returns g c = ask_reads g.S.Steps.sense c.args.s.now c.args.key c.requests.result.now c.ask.result c.requests.ensures.means c.ask.ensures
