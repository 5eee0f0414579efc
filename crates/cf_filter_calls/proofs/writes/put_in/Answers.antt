use Rattle.cf_filter_calls.proofs.Wrote.{put_off, put_on}
use Rattle.cf_filter_calls.proofs.writes.put_in.Goals as goal

pub returns-in-Ok-Some : goal.returns-in-Ok-Some
returns-in-Ok-Some g c = put_off g.S.Steps.sense c.args.item c.args.change c.from_ref.result.now c.in-Ok-Some.field-0 c.in-Ok-Some.code c.args.s.now c.from_ref.ensures.value c.in-Ok-Some.ensures c.in-Ok-Some.field-0-is

pub returns-in-Ok-None : goal.returns-in-Ok-None
returns-in-Ok-None g c = put_on g.S.Steps.sense c.args.item c.args.change c.from_ref.result.now c.in-Ok-None.field-0 c.args.s.now c.write_now.new.s c.write_now.result c.from_ref.ensures.value c.in-Ok-None.ensures c.in-Ok-None.field-0-is c.write_now.ensures
