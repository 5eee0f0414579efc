use Rattle.cf_engine_steps.specs.Answering.{Any}
use Rattle.cf_engine_steps.specs.States.{whole}
use Rattle.cf_engine_steps.proofs.Laws.{with_err}
use Rattle.cf_model.specs.Feeds.{apply_entries}
use Rattle.cf_engine_feed.proofs.FeedEnds.{entries_end, entries_fail}
use Rattle.cf_engine_feed.proofs.feeds.apply_entries.Goals as goal

pub returns-in_err-postponed : goal.returns-in_err-postponed
returns-in_err-postponed g c = with_err (whole g.S.Steps.sense g.R.Remote.told) Any (apply_entries c.args.clock c.args.entries.now) (c.args.s.now, c.args.e.now) (c.all_turns.new.s, c.all_turns.new.e) c.in_err-postponed.field-0.0 c.from_residual.result c.from_residual.ensures.1
    (entries_fail g.S.Steps.sense g.R.Remote.told c.args.clock c.skips-skips.result c.args.entries.now c.args.s.now c.args.e.now c.skips-skips.ensures c.all_turns.new.s c.all_turns.new.e c.in_err-postponed.field-0.0 c.in_err-postponed.ensures.1)

pub returns : goal.returns
returns g c = entries_end g.S.Steps.sense g.R.Remote.told c.args.clock c.skips-skips.result c.args.entries.now c.args.s.now c.args.e.now c.skips-skips.ensures c.in_ok-postponed.ensures.0 c.in_ok-postponed.postponed c.all_turns.new.s c.end_feed.new.s c.all_turns.new.e c.end_feed.new.e c.end_feed.result c.in_ok-postponed.ensures.1 c.end_feed.ensures
