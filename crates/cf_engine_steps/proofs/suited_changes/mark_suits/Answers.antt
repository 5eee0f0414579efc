use Rattle.cf_engine_steps.proofs.Suited.{mark_by}
use Rattle.cf_engine_steps.proofs.suited_changes.mark_suits.Goals as goal

pub returns : goal.returns
returns g c = mark_by g.S.Steps.sense c.args.item c.args.number c.args.s.now c.is_placeholder.result c.is_placeholder.ensures
