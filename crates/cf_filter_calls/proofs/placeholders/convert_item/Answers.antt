use Rattle.cf_filter_calls.specs.Planned.{by_convert}
use Rattle.cf_filter_calls.proofs.Suited.{convert_suits}
use Rattle.cf_filter_calls.proofs.placeholders.convert_item.Goals as goal

pub returns : goal.returns
returns g c = c.make_planned.ensures (by_convert c.args.identity.now) c.convert_plan-plan.ensures (convert_suits c.args.id c.args.identity.now)
