use Rattle.std.proofs.Common.{get_or}
use Rattle.cf_engine_space.proofs.Freed.{there}
use Rattle.cf_engine_steps.specs.States.{whole}
use Rattle.cf_engine_steps.proofs.Loops.{each_ends, each_exits, each_more}
use Rattle.cf_model.specs.Space.{dehydrate_whole}
use Rattle.cf_engine_space.proofs.spaces.dehydrate_each.Goals as goal

pub returns-in_err-dehydrate_whole : goal.returns-in_err-dehydrate_whole
returns-in_err-dehydrate_whole g c = each_exits (whole g.S.Steps.sense g.R.Remote.told) dehydrate_whole c.args.ids.now c.args.ids.now c.loop-id.id-index (get_or c.args.ids.now c.loop-id.id-index (record { 0 = 0 })) (c.args.s.now, c.args.e.now) (c.loop-id.s, c.loop-id.e) c.in_err-dehydrate_whole.field-0.0 c.from_residual.result (c.dehydrate_whole.new.s, c.dehydrate_whole.new.e)
    c.loop-id.invariant c.loop-id-test.true (there c.args.ids.now c.loop-id.id-index (record { 0 = 0 }) (get_or c.args.ids.now c.loop-id.id-index (record { 0 = 0 })) c.loop-id-test.true) c.in_err-dehydrate_whole.ensures c.from_residual.ensures.1

pub loop-id-preserved : goal.loop-id-preserved
loop-id-preserved g c = λ r u d. c.loop-id.invariant r u (each_more (whole g.S.Steps.sense g.R.Remote.told) dehydrate_whole c.args.ids.now c.loop-id.id-index (get_or c.args.ids.now c.loop-id.id-index (record { 0 = 0 })) (c.loop-id.s, c.loop-id.e) (c.dehydrate_whole.new.s, c.dehydrate_whole.new.e) c.in_ok-dehydrate_whole.field-0 r u c.loop-id-test.true (there c.args.ids.now c.loop-id.id-index (record { 0 = 0 }) (get_or c.args.ids.now c.loop-id.id-index (record { 0 = 0 })) c.loop-id-test.true) c.in_ok-dehydrate_whole.ensures d)

pub returns : goal.returns
returns g c = each_ends (whole g.S.Steps.sense g.R.Remote.told) dehydrate_whole c.args.ids.now c.args.ids.now c.loop-id.id-index (c.args.s.now, c.args.e.now) (c.loop-id.s, c.loop-id.e) c.loop-id.invariant c.loop-id-test.false
