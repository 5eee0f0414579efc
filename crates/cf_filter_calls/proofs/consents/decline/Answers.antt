use Rattle.cf_filter_calls.proofs.Consented.{declined}
use Rattle.cf_filter_calls.proofs.consents.decline.Goals as goal

pub returns : goal.returns
returns g c = declined g.S.Steps.sense c.args.ask.now c.args.s.now c.finish.new.s c.finish.result c.finish.ensures
