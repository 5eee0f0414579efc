use Rattle.cf_engine_passes.specs.Settlements.{settle_one}
use Rattle.cf_engine_steps.specs.States.{whole}
use Rattle.cf_engine_steps.proofs.Loops.{each_ends, each_exits, each_more}
use Rattle.cf_engine_passes.proofs.settlements.settle_each.Goals as goal

pub returns-in_err-settle_one : goal.returns-in_err-settle_one
returns-in_err-settle_one g c = each_exits (whole g.S.Steps.sense g.R.Remote.told) settle_one c.args.entries.now c.args.entries.now c.loop-entry.entry-index c.entry-item.result (c.args.s.now, c.args.e.now) (c.loop-entry.s, c.loop-entry.e) c.in_err-settle_one.field-0.0 c.from_residual.result (c.settle_one.new.s, c.settle_one.new.e)
    c.loop-entry.invariant c.loop-entry-test.true c.entry-item.is c.in_err-settle_one.ensures c.from_residual.ensures.1

pub loop-entry-preserved : goal.loop-entry-preserved
loop-entry-preserved g c = λ r u d. c.loop-entry.invariant r u (each_more (whole g.S.Steps.sense g.R.Remote.told) settle_one c.args.entries.now c.loop-entry.entry-index c.entry-item.result (c.loop-entry.s, c.loop-entry.e) (c.settle_one.new.s, c.settle_one.new.e) c.in_ok-settle_one.field-0 r u c.loop-entry-test.true c.entry-item.is c.in_ok-settle_one.ensures d)

pub returns : goal.returns
returns g c = each_ends (whole g.S.Steps.sense g.R.Remote.told) settle_one c.args.entries.now c.args.entries.now c.loop-entry.entry-index (c.args.s.now, c.args.e.now) (c.loop-entry.s, c.loop-entry.e) c.loop-entry.invariant c.loop-entry-test.false
