use Rattle.cf_filter_calls.proofs.Entered.{listed_first, listed_then}
use Rattle.cf_filter_calls.proofs.directory_entries.entries.Goals as goal

pub returns-in-Some : goal.returns-in-Some
returns-in-Some g c = listed_first g.S.Steps.sense c.args.s.now c.args.ask.now c.args.list.now c.args.good c.args.records.now c.in_ok-code.field-0 c.in-Some.code c.in_ok-code.ensures c.in-Some.is

pub returns-in-None : goal.returns-in-None
returns-in-None g c = listed_then g.S.Steps.sense c.args.s.now c.answer_list.new.s c.args.ask.now c.args.list.now c.args.good c.args.records.now c.in_ok-code.field-0 c.answer_list.result c.in_ok-code.ensures c.in-None.is c.answer_list.ensures
