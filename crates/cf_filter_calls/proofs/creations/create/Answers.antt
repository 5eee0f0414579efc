use Rattle.cf_filter_calls.proofs.NewItems.{placed_off, placed_on}
use Rattle.cf_model.specs.Calls.{place_at}
use Rattle.cf_model.specs.Placements.{create_at}
use Rattle.cf_item_rules.specs.PlaceholderPlans.{meant}
use Rattle.cf_filter_calls.proofs.creations.create.Goals as goal

pub returns-in-Ok : goal.returns-in-Ok
returns-in-Ok g c = placed_on g.S.Steps.sense (place_at c.args.path.now) (create_at (meant c.args.what.now)) c.find_place.result c.in-Ok.place c.args.s.now c.create_at.new.s c.create_at.result c.find_place.ensures c.in-Ok.is c.create_at.ensures

pub returns-in-Err : goal.returns-in-Err
returns-in-Err g c = placed_off g.S.Steps.sense (place_at c.args.path.now) (create_at (meant c.args.what.now)) c.find_place.result c.in-Err.fail c.args.s.now c.refused_by.result c.find_place.ensures c.in-Err.is c.refused_by.ensures
