use Rattle.cf_filter_calls.proofs.Moved.{delete_off, delete_on}
use Rattle.cf_filter_calls.proofs.removals.delete_item.Goals as goal

pub returns-in-Some : goal.returns-in-Some
returns-in-Some g c = delete_off g.S.Steps.sense c.args.id c.args.mode c.in_ok-code.field-0 c.in-Some.code c.args.s.now c.in_ok-code.ensures c.in-Some.is

pub returns-in-None : goal.returns-in-None
returns-in-None g c = delete_on g.S.Steps.sense c.args.id c.args.mode c.in_ok-code.field-0 c.args.s.now c.remove_next.new.s c.remove_next.result c.in_ok-code.ensures c.in-None.is c.remove_next.ensures
