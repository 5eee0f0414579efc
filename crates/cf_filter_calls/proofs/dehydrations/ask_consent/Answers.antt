use Rattle.cf_filter_calls.proofs.Dehydrated.{asked_for}
use Rattle.cf_filter_calls.proofs.dehydrations.ask_consent.Goals as goal

pub returns : goal.returns
returns g c = asked_for g.S.Steps.sense c.args.id c.args.start c.args.len c.args.s.now c.begin_limited.new.s c.begin_limited.result c.begin_limited.ensures
