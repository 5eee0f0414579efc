use Rattle.cf_filter_calls.proofs.Consented.{consent_on}
use Rattle.cf_filter_calls.proofs.consents.consent.Goals as goal

pub returns : goal.returns
returns g c = consent_on g.S.Steps.sense c.args.ask.now c.lacks_place.result c.args.s.now c.empty_then.new.s c.empty_then.result (c.is_near.ensures c.if-not-is_near.false) c.lacks_place.ensures c.if-lacks_place.false c.empty_then.ensures
