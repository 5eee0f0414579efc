use Rattle.std.proofs.Common.{arith}
use Rattle.cf_engine_passes.proofs.Synced.{all_left, goes_on, goes_out, none_left, was_last}
use Rattle.cf_engine_steps.specs.States.{whole}
use Rattle.cf_engine_passes.proofs.syncs.passes.Goals as goal

pub returns-in_err-one_pass : goal.returns-in_err-one_pass
returns-in_err-one_pass g c = goes_out (whole g.S.Steps.sense g.R.Remote.told) c.args.things (c.args.s.now, c.args.e.now) c.loop-made.made (c.loop-made.s, c.loop-made.e) c.loop-made.invariant (c.one_pass.new.s, c.one_pass.new.e) c.in_err-one_pass.field-0.0 c.from_residual.result c.loop-made-test.true c.from_residual.ensures.1 c.in_err-one_pass.ensures

pub returns-then-branch : goal.returns-then-branch
returns-then-branch g c = was_last (whole g.S.Steps.sense g.R.Remote.told) c.args.things (c.args.s.now, c.args.e.now) c.loop-made.made (c.loop-made.s, c.loop-made.e) c.loop-made.invariant (c.one_pass.new.s, c.one_pass.new.e) c.in_ok-one_pass.field-0 c.in_ok-one_pass.ensures c.loop-made-test.true c.if-branch.true

pub loop-made-init : goal.loop-made-init
loop-made-init g c = all_left (whole g.S.Steps.sense g.R.Remote.told) c.args.things (c.args.s.now, c.args.e.now)

pub loop-made-preserved : goal.loop-made-preserved
loop-made-preserved g c = goes_on (whole g.S.Steps.sense g.R.Remote.told) c.args.things (c.args.s.now, c.args.e.now) c.loop-made.made (c.loop-made.s, c.loop-made.e) c.loop-made.invariant (c.one_pass.new.s, c.one_pass.new.e) c.in_ok-one_pass.field-0 c.in_ok-one_pass.ensures c.if-branch.false

pub returns : goal.returns
returns g c = none_left (whole g.S.Steps.sense g.R.Remote.told) c.args.things (c.args.s.now, c.args.e.now) c.loop-made.made (c.loop-made.s, c.loop-made.e) c.loop-made.invariant (omega arith)
