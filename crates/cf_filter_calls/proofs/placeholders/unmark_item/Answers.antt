use Rattle.cf_filter_calls.specs.Planned.{by_unmark}
use Rattle.cf_filter_calls.proofs.Suited.{unmark_suits}
use Rattle.cf_filter_calls.proofs.placeholders.unmark_item.Goals as goal

pub returns : goal.returns
returns g c = c.make_planned.ensures by_unmark c.unmark_plan-plan.ensures (unmark_suits c.args.id)
