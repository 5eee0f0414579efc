use Rattle.cf_filter_calls.proofs.Consented.{verdict_off, verdict_on}
use Rattle.cf_filter_calls.proofs.consents.consent_by.Goals as goal

pub returns-in-Some : goal.returns-in-Some
returns-in-Some g c = verdict_off g.S.Steps.sense c.args.ask.now c.judge_again.result c.in-Some.code c.args.s.now c.finish.new.s c.finish.result c.judge_again.ensures c.in-Some.is c.finish.ensures

pub returns-in-None : goal.returns-in-None
returns-in-None g c = verdict_on g.S.Steps.sense c.args.ask.now c.judge_again.result c.args.s.now c.consent.new.s c.consent.result c.judge_again.ensures c.in-None.is c.consent.ensures
