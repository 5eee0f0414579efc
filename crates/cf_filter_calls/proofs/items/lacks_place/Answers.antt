use Rattle.cf_filter_calls.proofs.Moved.{place_left, place_none}
use Rattle.cf_filter_calls.proofs.items.lacks_place.Goals as goal

pub returns-in-Some : goal.returns-in-Some
returns-in-Some g c = place_left g.S.Steps.sense c.args.s.now c.next_number.result c.in-Some.field-0 c.next_number.ensures c.in-Some.is

pub returns-in-None : goal.returns-in-None
returns-in-None g c = place_none g.S.Steps.sense c.args.s.now c.next_number.result c.next_number.ensures c.in-None.is
