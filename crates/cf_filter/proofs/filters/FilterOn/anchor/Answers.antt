use Rattle.cf_filter.proofs.Called.{seen_from}
use Rattle.cf_filter.proofs.Handed.{as_whether, handed}
use Rattle.cf_filter.proofs.filters.FilterOn.anchor.Goals as goal

pub returns : goal.returns
returns g c = λ i. handed g.G.Ground.state _ _ _ _ _ _ _ _ c.in_ok-check.ensures.ok (as_whether c.put_anchor-first.result (seen_from c.self.view_is (c.put_anchor-first.ensures i))) c.given.ensures c.finish.ensures.answer c.finish.ensures.new
