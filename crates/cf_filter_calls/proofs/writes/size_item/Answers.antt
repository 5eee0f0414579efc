use Rattle.cf_filter_calls.proofs.Wrote.{size_new, size_same}
use Rattle.cf_filter_calls.proofs.writes.size_item.Goals as goal

pub returns-then-has_size : goal.returns-then-has_size
returns-then-has_size g c = size_same g.S.Steps.sense c.args.item c.args.size c.has_size.result c.args.s.now c.keep_size.new.s c.keep_size.result c.if-size-gt-MOST_BYTES.false c.has_size.ensures c.if-has_size.true c.keep_size.ensures

pub returns-else-has_size : goal.returns-else-has_size
returns-else-has_size g c = size_new g.S.Steps.sense c.args.item c.args.size c.has_size.result c.args.s.now c.put_in.new.s c.put_in.result c.if-size-gt-MOST_BYTES.false c.has_size.ensures c.if-has_size.false c.put_in.ensures
