use Rattle.cf_filter.proofs.Called.{called}
use Rattle.cf_filter.proofs.filters.FilterOn.set_policy.Goals as goal

pub returns : goal.returns
returns g c = called g.G.Ground.state _ _ _ _ _ _ _ _ c.in_ok-check.ensures.ok c.make-told.ensures c.done.ensures c.finish.ensures.answer c.finish.ensures.new
