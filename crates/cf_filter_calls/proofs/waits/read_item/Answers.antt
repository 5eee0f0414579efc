use Rattle.cf_filter_calls.proofs.Begun.{read_by}
use Rattle.cf_filter_calls.proofs.waits.read_item.Goals as goal

pub returns : goal.returns
returns g c = read_by g.S.Steps.sense c.args.handle c.args.span c.args.item c.policy-policy.result c.is_progressive-background.result c.args.s.now c.meet.new.s c.meet.result c.policy-policy.ensures c.is_progressive-background.ensures c.meet.ensures
