use Rattle.cf_ask_rule.specs.Deeds.{deed_of}
use Rattle.cf_filter_calls.specs.Operating.{IsOperable, operated}
use Rattle.cf_filter_steps.proofs.Laws.{no_memory}
use Rattle.cf_filter_calls.proofs.Operated.{operated_off, operated_on}
use Rattle.cf_filter_calls.proofs.operation_changes.operate.Goals as goal

pub returns-in_default : goal.returns-in_default
returns-in_default g c = no_memory g.S.Steps.sense (IsOperable c.args.item c.args.change) (operated c.args.counts c.args.item c.args.change (deed_of c.args.act)) c.args.s.now

pub returns-in-Err : goal.returns-in-Err
returns-in-Err g c = no_memory g.S.Steps.sense (IsOperable c.args.item c.args.change) (operated c.args.counts c.args.item c.args.change (deed_of c.args.act)) c.args.s.now

pub returns-in-Ok-Some : goal.returns-in-Ok-Some
returns-in-Ok-Some g c = operated_off g.S.Steps.sense c.args.s.now c.args.item c.args.change (deed_of c.args.act) c.in-Ok.step c.args.counts c.in-Ok-Some.field-0 c.in-Ok-Some.code c.in-Ok.ensures.looks c.in-Ok-Some.ensures c.in-Ok-Some.field-0-is

pub returns-in-Ok-None : goal.returns-in-Ok-None
returns-in-Ok-None g c = operated_on g.S.Steps.sense c.args.s.now c.change_then.new.s c.args.item c.args.change (deed_of c.args.act) c.in-Ok.step c.args.counts c.in-Ok-None.field-0 c.change_then.result c.in-Ok.ensures.looks c.in-Ok-None.ensures c.in-Ok-None.field-0-is c.change_then.ensures
