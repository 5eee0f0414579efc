use Rattle.cf_engine_feed.specs.Indexed.{indexed}
use Rattle.std.proofs.Common.{[]}
use Rattle.cf_engine_steps.specs.States.{whole}
use Rattle.cf_engine_feed.specs.Turns.{entries_at, fed_of, turns_in}
use Rattle.cf_engine_feed.proofs.FeedTurns.{both_turns, fed_err, first_fails}
use Rattle.cf_engine_feed.proofs.turn_lists.turns_by.Goals as goal

pub returns-in_err-postponed : goal.returns-in_err-postponed
returns-in_err-postponed g c = (
  [],
  fed_err (indexed (whole g.S.Steps.sense g.R.Remote.told)) (turns_in (entries_at c.args.entries.now c.args.places.now)) c.args.entries.now [] ((c.args.s.now, c.args.e.now), c.args.targets.now) ((c.first_turns.new.s, c.first_turns.new.e), c.first_turns.new.targets) c.in_err-postponed.field-0.0 c.from_residual.result c.from_residual.ensures.1
      (first_fails (indexed (whole g.S.Steps.sense g.R.Remote.told)) c.args.entries.now c.args.places.now c.new-later.result.items ((c.args.s.now, c.args.e.now), c.args.targets.now) ((c.first_turns.new.s, c.first_turns.new.e), c.first_turns.new.targets) c.in_err-postponed.field-0.0 c.new-later.ensures.items c.in_err-postponed.ensures),
)

pub returns : goal.returns
returns g c = (
  c.first_turns.new.later.items,
  both_turns (indexed (whole g.S.Steps.sense g.R.Remote.told)) c.args.entries.now c.args.places.now c.new-later.result.items c.first_turns.new.later.items c.as_slice.result.now c.in_ok-postponed.postponed ((c.args.s.now, c.args.e.now), c.args.targets.now) ((c.first_turns.new.s, c.first_turns.new.e), c.first_turns.new.targets) ((c.second_turns-done.new.s, c.second_turns-done.new.e), c.second_turns-done.new.targets)
      (fed_of c.args.entries.now c.second_turns-done.result c.first_turns.new.later.items) c.new-later.ensures.items c.as_slice.ensures.value c.in_ok-postponed.ensures (c.second_turns-done.ensures c.first_turns.new.later.items),
)
