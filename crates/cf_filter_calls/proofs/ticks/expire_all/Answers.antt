use Rattle.std.proofs.Common.{get_or}
use Rattle.cf_model.specs.Numbers.{no_key}
use Rattle.cf_model.specs.Waits.{expire}
use Rattle.cf_filter_steps.proofs.Laws.{each_ends, each_exits, each_more}
use Rattle.cf_filter_calls.proofs.Ticked.{key_there}
use Rattle.cf_filter_calls.proofs.ticks.expire_all.Goals as goal

pub returns-in_err-expire : goal.returns-in_err-expire
returns-in_err-expire g c = each_exits g.S.Steps.sense expire c.args.keys.now c.args.keys.now c.loop-key.key-index (get_or c.args.keys.now c.loop-key.key-index no_key) c.args.s.now c.loop-key.s c.in_err-expire.field-0.0 c.from_residual.result c.expire.new.s
    c.loop-key.invariant c.loop-key-test.true (key_there c.args.keys.now c.loop-key.key-index no_key (get_or c.args.keys.now c.loop-key.key-index no_key) c.loop-key-test.true) c.in_err-expire.ensures c.from_residual.ensures.1

pub loop-key-preserved : goal.loop-key-preserved
loop-key-preserved g c = λ r u d. c.loop-key.invariant r u
    (each_more g.S.Steps.sense expire c.args.keys.now c.loop-key.key-index (get_or c.args.keys.now c.loop-key.key-index no_key) c.loop-key.s c.expire.new.s _ r u c.loop-key-test.true (key_there c.args.keys.now c.loop-key.key-index no_key (get_or c.args.keys.now c.loop-key.key-index no_key) c.loop-key-test.true) c.in_ok-expire.ensures d)

pub returns : goal.returns
returns g c = each_ends g.S.Steps.sense expire c.args.keys.now c.args.keys.now c.loop-key.key-index c.args.s.now c.loop-key.s c.loop-key.invariant c.loop-key-test.false
