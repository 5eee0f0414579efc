use Rattle.cf_filter.proofs.Called.{seen_both}
use Rattle.cf_filter.proofs.filters.FilterOn.tell.Goals as goal

pub returns : goal.returns
returns g c = seen_both c.self.view_is c.answer.ensures
