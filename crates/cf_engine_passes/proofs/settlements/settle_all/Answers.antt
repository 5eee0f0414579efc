use Rattle.cf_engine_passes.proofs.Passed.{settled_by}
use Rattle.cf_engine_passes.proofs.settlements.settle_all.Goals as goal

pub returns : goal.returns
returns g c = settled_by g.S.Steps.sense g.R.Remote.told c.args.s.now c.settle_each-done.new.s c.args.e.now c.settle_each-done.new.e c.settle_each-done.result c.in_ok-queue.queue c.entries.result.now c.in_ok-queue.ensures c.entries.ensures c.settle_each-done.ensures
