use Rattle.cf_model.specs.Waits.{at_path}
use Rattle.cf_model.specs.Placements.{mark_item}
use Rattle.cf_filter_calls.proofs.Carried.{found_on, lost_on}
use Rattle.cf_filter_calls.proofs.marks.set_in_sync.Goals as goal

pub returns-in-Ok : goal.returns-in-Ok
returns-in-Ok g c = found_on g.S.Steps.sense (at_path c.args.path.now) (mark_item c.args.number) c.find_at.result c.in-Ok.id c.args.s.now c.mark_item.new.s c.mark_item.result c.find_at.ensures c.in-Ok.is c.mark_item.ensures

pub returns-in-Err : goal.returns-in-Err
returns-in-Err g c = lost_on g.S.Steps.sense (at_path c.args.path.now) (mark_item c.args.number) c.find_at.result c.in-Err.code c.args.s.now c.find_at.ensures c.in-Err.is
