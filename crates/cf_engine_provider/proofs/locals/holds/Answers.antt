use Rattle.std.proofs.Common.{◌∙◌}
use Rattle.cf_engine_provider.proofs.KnownTargets.{found}
use Rattle.cf_engine_provider.proofs.locals.holds.Goals as goal

pub returns : goal.returns
returns c = c.is_ok.ensures.value ∙ found c.args.sorted.now c.args.rid.0 c.binary_search.result c.requires c.binary_search.ensures.position
