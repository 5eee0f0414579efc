use Rattle.cf_filter.proofs.Called.{seen_from}
use Rattle.cf_filter.proofs.filters.FilterOn.operate.Goals as goal

pub returns : goal.returns
returns g c = λ f. seen_from c.self.view_is (c.execute_with.ensures f)
