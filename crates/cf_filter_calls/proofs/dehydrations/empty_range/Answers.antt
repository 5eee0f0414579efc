use Rattle.cf_filter_calls.proofs.Dehydrated.{range_off, range_on}
use Rattle.cf_filter_calls.proofs.dehydrations.empty_range.Goals as goal

pub returns-then-holds_from : goal.returns-then-holds_from
returns-then-holds_from g c = range_on g.S.Steps.sense c.args.id c.args.start c.args.len c.holds_from.result c.args.s.now c.empty_held.new.s c.empty_held.result c.holds_from.ensures c.if-holds_from.true c.empty_held.ensures

pub returns-else-holds_from : goal.returns-else-holds_from
returns-else-holds_from g c = range_off g.S.Steps.sense c.args.id c.args.start c.args.len c.holds_from.result c.args.s.now c.holds_from.ensures c.if-holds_from.false
