use Rattle.cf_engine_feed.proofs.IndexSteps.{changed}
use Rattle.cf_engine_feed.proofs.indexes.Targets.change.Goals as goal

pub returns : goal.returns
returns c = changed c.args.item c.args.before c.args.after c.args.self.now c.leave.new.self c.enter.new.self c.leave.ensures c.in_ok-enter.ensures
