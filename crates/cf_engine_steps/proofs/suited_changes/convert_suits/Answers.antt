use Rattle.cf_engine_steps.proofs.Suited.{convert_by}
use Rattle.cf_engine_steps.proofs.suited_changes.convert_suits.Goals as goal

pub returns : goal.returns
returns g c = convert_by g.S.Steps.sense c.args.item c.args.identity.now c.args.s.now c.is_short.result c.is_short.ensures
