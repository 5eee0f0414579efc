use Rattle.cf_engine_steps.proofs.Suited.{free_by}
use Rattle.cf_engine_steps.proofs.item_tests.is_free.Goals as goal

pub returns : goal.returns
returns g c = free_by g.S.Steps.sense c.args.s.now c.rows.result.now c.args.parent c.args.name.now c.as_slice.result.now c.child.result c.is_none.result c.rows.ensures.means c.as_slice.ensures c.child.ensures c.is_none.ensures
