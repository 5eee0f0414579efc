use Rattle.cf_engine_passes.proofs.Passed.{when_down, when_up}
use Rattle.cf_model.specs.Passes.{sync_now}
use Rattle.cf_engine_passes.proofs.syncs.sync.Goals as goal

pub returns-then-is_connected : goal.returns-then-is_connected
returns-then-is_connected g c = when_up g.S.Steps.sense g.R.Remote.told c.args.s.now c.sync_now.new.s c.args.e.now c.sync_now.new.e sync_now c.sync_now.result c.is_connected.result c.is_connected.ensures c.if-is_connected.true c.sync_now.ensures

pub returns-else-is_connected : goal.returns-else-is_connected
returns-else-is_connected g c = when_down g.S.Steps.sense g.R.Remote.told c.args.s.now c.args.e.now sync_now c.is_connected.result c.is_connected.ensures c.if-is_connected.false
