use Rattle.cf_filter_calls.proofs.Entered.{number_none, number_some}
use Rattle.cf_filter_calls.proofs.directory_entries.first_number.Goals as goal

pub returns-in-Some : goal.returns-in-Some
returns-in-Some g c = number_some g.S.Steps.sense c.args.s.now c.next_number.result c.in-Some.number c.next_number.ensures c.in-Some.is

pub returns-in-None : goal.returns-in-None
returns-in-None g c = number_none g.S.Steps.sense c.args.s.now c.next_number.result _ c.next_number.ensures c.in-None.is
