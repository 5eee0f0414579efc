use Rattle.cf_model.specs.Calls.{below_at}
use Rattle.cf_model.specs.Placements.{convert_item}
use Rattle.cf_filter_steps.proofs.LookUps.{finds_below}
use Rattle.cf_filter_calls.proofs.Carried.{found_on, lost_on}
use Rattle.cf_filter_calls.proofs.placeholders.convert.Goals as goal

pub returns-in-Ok : goal.returns-in-Ok
returns-in-Ok g c = found_on g.S.Steps.sense (below_at c.args.path.now) (convert_item c.args.identity.now) c.find_below_root.result c.in-Ok.id c.args.s.now c.convert_item.new.s c.convert_item.result (finds_below g.S.Steps.sense (below_at c.args.path.now) c.args.s.now c.find_below_root.result c.find_below_root.ensures) c.in-Ok.is c.convert_item.ensures

pub returns-in-Err : goal.returns-in-Err
returns-in-Err g c = lost_on g.S.Steps.sense (below_at c.args.path.now) (convert_item c.args.identity.now) c.find_below_root.result c.in-Err.code c.args.s.now (finds_below g.S.Steps.sense (below_at c.args.path.now) c.args.s.now c.find_below_root.result c.find_below_root.ensures) c.in-Err.is
