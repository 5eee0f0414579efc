use Rattle.cf_engine_feed.specs.Indexed.{indexed}
use Rattle.std.specs.Prelude.{Ok, false}
use Rattle.cf_engine_steps.specs.Answering.{Any}
use Rattle.cf_engine_steps.specs.States.{whole}
use Rattle.cf_engine_steps.proofs.Laws.{goes_any, returned}
use Rattle.cf_engine_feed_plan.specs.Turns.{do_steps}
use Rattle.cf_model.specs.Feeds.{taken}
use Rattle.cf_engine_feed.proofs.entry_turns.do_all.Goals as goal

pub returns : goal.returns
returns g c = goes_any (indexed (whole g.S.Steps.sense g.R.Remote.told)) Any (do_steps c.args.steps.now) taken ((c.args.s.now, c.args.e.now), c.args.targets.now) ((c.do_steps.new.s, c.do_steps.new.e), c.do_steps.new.targets) ((c.do_steps.new.s, c.do_steps.new.e), c.do_steps.new.targets) c.in_ok-do_steps.field-0 (Ok false) c.in_ok-do_steps.ensures (returned (indexed (whole g.S.Steps.sense g.R.Remote.told)) Any false ((c.do_steps.new.s, c.do_steps.new.e), c.do_steps.new.targets))
