use Rattle.std.proofs.Common.{refl}
use Rattle.cf_filter.proofs.Provided.{provided_plainly}
use Rattle.cf_filter.proofs.filters.FilterOn.execute_now.Goals as goal

pub returns-clause-does : goal.returns-clause-does
returns-clause-does g c = provided_plainly g.G.Ground.state g.P.Provider.answers _ _ _ _ _ c.args.op.now _ _ refl c.execute_with.ensures.does
