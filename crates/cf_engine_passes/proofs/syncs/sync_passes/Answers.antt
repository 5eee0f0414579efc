use Rattle.cf_engine_passes.proofs.Synced.{at_once, queued}
use Rattle.cf_engine_passes.proofs.syncs.sync_passes.Goals as goal

pub returns-then-not-is_inline : goal.returns-then-not-is_inline
returns-then-not-is_inline g c = queued g.S.Steps.sense g.R.Remote.told c.args.s.now c.pass.new.s c.args.e.now c.pass.new.e c.pass.result c.is_inline.result c.is_inline.ensures c.if-not-is_inline.true c.pass.ensures

pub returns : goal.returns
returns g c = at_once g.S.Steps.sense g.R.Remote.told c.args.s.now c.passes.new.s c.args.e.now c.passes.new.e c.passes.result c.is_inline.result c.is_inline.ensures c.in_ok-things.things c.if-not-is_inline.false c.in_ok-things.ensures c.passes.ensures
