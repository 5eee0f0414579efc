use Rattle.cf_filter.proofs.Called.{seen_from}
use Rattle.cf_filter.proofs.Provided.{called_back}
use Rattle.cf_filter.proofs.filters.FilterOn.ask_by.Goals as goal

pub returns : goal.returns
returns g c = called_back g.G.Ground.state g.P.Provider.answers _ _ _ _ _ _ _ _ _ (seen_from c.self.view_is c.ask-first.ensures) c.drained.ensures
