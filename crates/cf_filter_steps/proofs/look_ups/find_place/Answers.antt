use Rattle.cf_filter_steps.proofs.LookUps.{found_place}
use Rattle.cf_filter_steps.proofs.look_ups.find_place.Goals as goal

pub returns : goal.returns
returns g c = found_place g.S.Steps.sense c.args.s.now c.rows.result.now c.args.path.now _ c.rows.ensures.means c.find_parent.ensures.place
