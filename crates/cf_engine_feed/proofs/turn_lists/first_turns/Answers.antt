use Rattle.cf_engine_feed.specs.Indexed.{indexed}
use Rattle.std.proofs.Common.{false, get_or}
use Rattle.std.specs.Prelude.{Ok, Err}
use Rattle.cf_engine_steps.specs.States.{whole}
use Rattle.cf_engine_feed.specs.Turns.{entries_at, fed}
use Rattle.cf_engine_feed.proofs.FeedTurns.{fed_err, there, turns_end, turns_fail, turns_more}
use Rattle.cf_model.specs.Feeds.{first_turn, turns}
use Rattle.cf_engine_feed.proofs.turn_lists.first_turns.Goals as goal

pub returns-in_err-so_far : goal.returns-in_err-so_far
returns-in_err-so_far g c = fed_err (indexed (whole g.S.Steps.sense g.R.Remote.told)) (turns first_turn (entries_at c.args.entries.now c.args.places.now) (fed c.args.entries.now false c.args.later.now.items)) c.args.entries.now c.first_turn_at.new.later.items ((c.args.s.now, c.args.e.now), c.args.targets.now) ((c.first_turn_at.new.s, c.first_turn_at.new.e), c.first_turn_at.new.targets) c.in_err-so_far.field-0.0 c.from_residual.result c.from_residual.ensures.1
    (c.loop-place.invariant (Err c.in_err-so_far.field-0.0) ((c.first_turn_at.new.s, c.first_turn_at.new.e), c.first_turn_at.new.targets)
    (turns_fail (indexed (whole g.S.Steps.sense g.R.Remote.told)) first_turn c.args.entries.now c.args.places.now c.loop-place.place-index (get_or c.args.places.now c.loop-place.place-index 0) (fed c.args.entries.now c.loop-place.postponed c.loop-place.later.items) ((c.loop-place.s, c.loop-place.e), c.loop-place.targets) ((c.first_turn_at.new.s, c.first_turn_at.new.e), c.first_turn_at.new.targets) c.in_err-so_far.field-0.0
    c.loop-place-test.true (there c.args.places.now c.loop-place.place-index 0 (get_or c.args.places.now c.loop-place.place-index 0) c.loop-place-test.true) (c.in_err-so_far.ensures)))

pub loop-place-preserved : goal.loop-place-preserved
loop-place-preserved g c = λ r u d. c.loop-place.invariant r u
    (turns_more (indexed (whole g.S.Steps.sense g.R.Remote.told)) first_turn c.args.entries.now c.args.places.now c.loop-place.place-index (get_or c.args.places.now c.loop-place.place-index 0) (fed c.args.entries.now c.loop-place.postponed c.loop-place.later.items) (fed c.args.entries.now c.in_ok-so_far.so_far c.first_turn_at.new.later.items) ((c.loop-place.s, c.loop-place.e), c.loop-place.targets) ((c.first_turn_at.new.s, c.first_turn_at.new.e), c.first_turn_at.new.targets) u r
    c.loop-place-test.true (there c.args.places.now c.loop-place.place-index 0 (get_or c.args.places.now c.loop-place.place-index 0) c.loop-place-test.true) (c.in_ok-so_far.ensures) d)

pub returns : goal.returns
returns g c = c.loop-place.invariant (Ok (fed c.args.entries.now c.loop-place.postponed c.loop-place.later.items)) ((c.loop-place.s, c.loop-place.e), c.loop-place.targets) (turns_end (indexed (whole g.S.Steps.sense g.R.Remote.told)) first_turn c.args.entries.now c.args.places.now c.loop-place.place-index (fed c.args.entries.now c.loop-place.postponed c.loop-place.later.items) ((c.loop-place.s, c.loop-place.e), c.loop-place.targets) c.loop-place-test.false)
