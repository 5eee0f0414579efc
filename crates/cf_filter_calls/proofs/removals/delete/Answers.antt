use Rattle.cf_model.specs.Calls.{below_at, delete_item}
use Rattle.cf_filter_steps.proofs.LookUps.{finds_below}
use Rattle.cf_filter_calls.proofs.Carried.{lost_on}
use Rattle.cf_filter_calls.proofs.Moved.{below_on}
use Rattle.cf_filter_calls.proofs.removals.delete.Goals as goal

pub returns-in-Ok : goal.returns-in-Ok
returns-in-Ok g c = below_on g.S.Steps.sense (below_at c.args.path.now) (delete_item c.args.mode) c.find_below_root.result c.in-Ok.id c.args.s.now c.delete_item.new.s c.delete_item.result c.find_below_root.ensures c.in-Ok.is c.delete_item.ensures

pub returns-in-Err : goal.returns-in-Err
returns-in-Err g c = lost_on g.S.Steps.sense (below_at c.args.path.now) (delete_item c.args.mode) c.find_below_root.result c.in-Err.code c.args.s.now (finds_below g.S.Steps.sense (below_at c.args.path.now) c.args.s.now c.find_below_root.result c.find_below_root.ensures) c.in-Err.is
