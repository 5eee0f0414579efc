use Rattle.cf_model.specs.Placements.{revert_plan}
use Rattle.cf_filter_calls.proofs.Suited.{revert_suits}
use Rattle.cf_filter_calls.proofs.placeholders.revert_item.Goals as goal

pub returns : goal.returns
returns g c = c.make_planned.ensures revert_plan c.revert_plan-plan.ensures (revert_suits c.args.id)
