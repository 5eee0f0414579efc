use Rattle.std.proofs.Common.{refl}
use Rattle.cf_filter_calls.proofs.Entered.{deep_none, deep_some}
use Rattle.cf_filter_calls.proofs.directory_entries.is_too_deep.Goals as goal

pub returns-then-is_any : goal.returns-then-is_any
returns-then-is_any g c = deep_some g.S.Steps.sense c.args.s.now c.rows.result.now c.args.dir c.args.list.now c.is_any.result c.line_of.result.depth _ c.rows.ensures.means c.is_any.ensures c.if-is_any.true c.line_of.ensures.depth refl

pub returns-else-is_any : goal.returns-else-is_any
returns-else-is_any g c = deep_none g.S.Steps.sense c.args.s.now c.args.dir c.args.list.now c.is_any.result c.is_any.ensures c.if-is_any.false
