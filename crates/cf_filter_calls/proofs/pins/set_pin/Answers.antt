use Rattle.cf_model.specs.Calls.{pin_item}
use Rattle.cf_model.specs.Waits.{at_path}
use Rattle.cf_filter_calls.proofs.Carried.{found_on, lost_on}
use Rattle.cf_filter_calls.proofs.pins.set_pin.Goals as goal

pub returns-in-Ok : goal.returns-in-Ok
returns-in-Ok g c = found_on g.S.Steps.sense (at_path c.args.path.now) (pin_item c.args.pin c.args.reach) c.find_at.result c.in-Ok.id c.args.s.now c.pin_item.new.s c.pin_item.result c.find_at.ensures c.in-Ok.is c.pin_item.ensures

pub returns-in-Err : goal.returns-in-Err
returns-in-Err g c = lost_on g.S.Steps.sense (at_path c.args.path.now) (pin_item c.args.pin c.args.reach) c.find_at.result c.in-Err.code c.args.s.now c.find_at.ensures c.in-Err.is
