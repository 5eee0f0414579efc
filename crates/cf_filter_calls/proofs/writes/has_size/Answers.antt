use Rattle.cf_filter_calls.proofs.Wrote.{size_is}
use Rattle.cf_filter_calls.proofs.writes.has_size.Goals as goal

pub returns : goal.returns
returns g c = size_is g.S.Steps.sense c.args.item c.args.size c.size_at-now.result c.args.s.now c.size_at-now.ensures
