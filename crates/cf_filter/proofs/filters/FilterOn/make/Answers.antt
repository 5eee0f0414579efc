use Rattle.cf_filter.proofs.Called.{seen_from}
use Rattle.cf_filter.proofs.filters.FilterOn.make.Goals as goal

pub returns : goal.returns
returns g c = seen_from c.self.view_is c.make.ensures
