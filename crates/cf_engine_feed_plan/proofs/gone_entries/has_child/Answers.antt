use Rattle.std.proofs.Common.{◌∙◌, ap, not}
use Rattle.cf_engine_feed_plan.proofs.Children.{none_below}
use Rattle.cf_engine_feed_plan.proofs.gone_entries.has_child.Goals as goal

pub returns : goal.returns
returns c = λ items m. c.in_ok-child.ensures ∙ ap not (none_below c.args.rows.now.rows items c.args.id m)
