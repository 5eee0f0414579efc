use Rattle.cf_filter.proofs.Called.{seen_from}
use Rattle.cf_filter.proofs.Handed.{handed}
use Rattle.cf_filter.proofs.filters.FilterOn.bytes.Goals as goal

pub returns-clause-does : goal.returns-clause-does
returns-clause-does g c = handed g.G.Ground.state _ _ _ _ _ _ _ _ c.in_ok-check.ensures.ok (seen_from c.self.view_is c.retrieve-first.ensures.does) c.given.ensures c.finish.ensures.answer c.finish.ensures.new
