use Rattle.cf_wire.proofs.Apart.{distinct_count_is}
use Rattle.cf_wire.proofs.fitting.are_distinct.Goals as goal

pub returns : goal.returns
returns c = distinct_count_is c.args.entries.now c.in_ok-rids.rids c.len.result c.in_ok-rids.ensures c.len.ensures.len
