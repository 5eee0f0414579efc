use Rattle.cf_filter.proofs.Called.{seen_from}
use Rattle.cf_filter.proofs.steps.FilterOnSteps.put.Goals as goal

pub returns-clause-does : goal.returns-clause-does
returns-clause-does g c = seen_from c.self.view_is c.put.ensures.does
