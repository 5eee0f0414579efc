use Rattle.cf_filter_calls.proofs.Dehydrated.{item_off, item_on}
use Rattle.cf_filter_calls.proofs.dehydrations.dehydrate_item.Goals as goal

pub returns-in-Some : goal.returns-in-Some
returns-in-Some g c = item_off g.S.Steps.sense c.args.id c.args.start c.args.len c.is_used-used.result c.judge.result c.in-Some.code c.args.s.now c.is_used-used.ensures c.judge.ensures c.in-Some.is

pub returns-in-None : goal.returns-in-None
returns-in-None g c = item_on g.S.Steps.sense c.args.id c.args.start c.args.len c.size_at-size.result c.cut.result c.is_used-used.result c.judge.result c.args.s.now c.empty_range.new.s c.empty_range.result c.is_used-used.ensures c.size_at-size.ensures c.judge.ensures c.in-None.is c.cut.ensures c.empty_range.ensures
