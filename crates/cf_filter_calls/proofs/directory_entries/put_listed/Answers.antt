use Rattle.cf_filter_calls.proofs.Entered.{listed_off, listed_on}
use Rattle.cf_filter_calls.proofs.directory_entries.put_listed.Goals as goal

pub returns-in-Some : goal.returns-in-Some
returns-in-Some g c = listed_off g.S.Steps.sense c.args.s.now c.args.ask.now c.args.changes.now c.args.records.now c.in_ok-room.room c.room_code.result c.in-Some.code c.in_ok-room.ensures c.room_code.ensures c.in-Some.is

pub returns-in-None : goal.returns-in-None
returns-in-None g c = listed_on g.S.Steps.sense c.args.s.now c.enter_now.new.s c.args.ask.now c.args.changes.now c.args.records.now c.in_ok-room.room c.room_code.result c.enter_now.result c.in_ok-room.ensures c.room_code.ensures c.in-None.is c.enter_now.ensures
