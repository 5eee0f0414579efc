use Rattle.cf_filter_calls.proofs.Moved.{place_off, place_on}
use Rattle.cf_filter_calls.proofs.moves.rename_item.Goals as goal

pub returns-in-Ok : goal.returns-in-Ok
returns-in-Ok g c = place_on g.S.Steps.sense c.args.id c.args.to.now c.find_place.result c.in-Ok.place c.args.s.now c.rename_to.new.s c.rename_to.result c.find_place.ensures c.in-Ok.is c.rename_to.ensures

pub returns-in-Err : goal.returns-in-Err
returns-in-Err g c = place_off g.S.Steps.sense c.args.id c.args.to.now c.find_place.result c.in-Err.fail c.args.s.now c.refused_by.result c.find_place.ensures c.in-Err.is c.refused_by.ensures
