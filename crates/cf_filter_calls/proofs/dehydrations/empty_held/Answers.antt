use Rattle.std.specs.Prelude.{false, true}
use Rattle.cf_filter_calls.proofs.Dehydrated.{linked_on}
use Rattle.cf_filter_calls.proofs.dehydrations.empty_held.Goals as goal

pub returns-then-is_connected : goal.returns-then-is_connected
returns-then-is_connected g c = linked_on g.S.Steps.sense c.args.id c.args.start c.args.len c.is_connected.result true c.args.s.now c.ask_consent.new.s c.ask_consent.result c.is_connected.ensures c.if-is_connected.true c.ask_consent.ensures

pub returns-else-is_connected : goal.returns-else-is_connected
returns-else-is_connected g c = linked_on g.S.Steps.sense c.args.id c.args.start c.args.len c.is_connected.result false c.args.s.now c.empty_now.new.s c.empty_now.result c.is_connected.ensures c.if-is_connected.false c.empty_now.ensures
