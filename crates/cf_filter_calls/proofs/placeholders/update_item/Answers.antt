use Rattle.cf_model.specs.Placements.{update_plan}
use Rattle.cf_filter_calls.proofs.Suited.{update_suits}
use Rattle.cf_filter_calls.proofs.placeholders.update_item.Goals as goal

pub returns : goal.returns
returns g c = c.make_planned.ensures (update_plan c.args.identity.now c.args.size) c.update_plan-plan.ensures (update_suits c.args.id c.args.identity.now c.args.size)
