use Rattle.cf_model.specs.Dehydration.{dehydrate_range}
use Rattle.cf_model.specs.Waits.{at_path, but_directory}
use Rattle.cf_filter_calls.proofs.Carried.{found_on, lost_on}
use Rattle.cf_filter_calls.proofs.dehydrations.dehydrate.Goals as goal

pub returns-in-Ok : goal.returns-in-Ok
returns-in-Ok g c = found_on g.S.Steps.sense (at_path c.args.path.now) (but_directory (dehydrate_range c.args.range)) c.find_at.result c.in-Ok.id c.args.s.now c.dehydrate_file.new.s c.dehydrate_file.result c.find_at.ensures c.in-Ok.is c.dehydrate_file.ensures

pub returns-in-Err : goal.returns-in-Err
returns-in-Err g c = lost_on g.S.Steps.sense (at_path c.args.path.now) (but_directory (dehydrate_range c.args.range)) c.find_at.result c.in-Err.code c.args.s.now c.find_at.ensures c.in-Err.is
