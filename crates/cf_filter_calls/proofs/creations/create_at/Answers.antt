use Rattle.cf_filter_calls.proofs.NewItems.{at_last, at_number}
use Rattle.cf_item_rules.specs.PlaceholderPlans.{meant}
use Rattle.cf_filter_calls.proofs.creations.create_at.Goals as goal

pub returns-in-Some : goal.returns-in-Some
returns-in-Some g c = at_number g.S.Steps.sense c.args.parent c.args.name.now (meant c.args.what.now) c.args.s.now c.create_with.new.s c.next_number.result c.in-Some.next c.create_with.result c.next_number.ensures c.in-Some.is c.create_with.ensures

pub returns-in-None : goal.returns-in-None
returns-in-None g c = at_last g.S.Steps.sense c.args.parent c.args.name.now (meant c.args.what.now) c.args.s.now c.create_none.new.s c.next_number.result c.create_none.result c.next_number.ensures c.in-None.is c.create_none.ensures
