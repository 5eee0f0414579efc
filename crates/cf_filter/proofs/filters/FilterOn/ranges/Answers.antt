use Rattle.cf_filter.proofs.Called.{asked}
use Rattle.cf_filter.proofs.filters.FilterOn.ranges.Goals as goal

pub returns : goal.returns
returns g c = asked g.G.Ground.state _ _ _ _ _ _ c.in_ok-check.ensures.ok c.tell-told.ensures c.runs.ensures c.answer.ensures
