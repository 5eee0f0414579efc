use Rattle.cf_filter_calls.proofs.Moved.{children_read}
use Rattle.cf_engine_steps.proofs.removals.has_children.Goals as goal

pub returns : goal.returns
returns g c = children_read g.S.Steps.sense c.args.s.now c.rows.result.now c.args.item c.in_ok-children.children.items c.deref.result.now c.is_any.result c.rows.ensures.means c.in_ok-children.ensures c.deref.ensures.value c.is_any.ensures
