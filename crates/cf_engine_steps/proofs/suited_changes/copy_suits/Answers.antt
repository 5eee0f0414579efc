use Rattle.cf_engine_steps.proofs.Suited.{copy_by}
use Rattle.cf_engine_steps.proofs.suited_changes.copy_suits.Goals as goal

pub returns : goal.returns
returns g c = copy_by g.S.Steps.sense c.args.item c.args.from c.args.parent c.args.name.now c.args.s.now c.is_next.result c.is_copied.result c.is_place.result c.if-not-is_next.false c.is_next.ensures c.if-not-is_copied.false c.is_copied.ensures c.is_place.ensures
