use Rattle.cf_engine_feed.specs.Indexed.{indexed}
use Rattle.std.proofs.Common.{get_or}
use Rattle.std.specs.Prelude.{Ok, Err}
use Rattle.cf_engine_steps.specs.States.{whole}
use Rattle.cf_engine_feed.specs.Turns.{entries_at, fed}
use Rattle.cf_engine_feed.proofs.FeedTurns.{fed_err, there, turns_end, turns_fail, turns_more}
use Rattle.cf_model.specs.Feeds.{second_turn, turns}
use Rattle.cf_engine_feed.proofs.turn_lists.second_turns.Goals as goal

pub returns-in_err-so_far : goal.returns-in_err-so_far
returns-in_err-so_far g c = λ later. fed_err (indexed (whole g.S.Steps.sense g.R.Remote.told)) (turns second_turn (entries_at c.args.entries.now c.args.places.now) (fed c.args.entries.now c.args.postponed later)) c.args.entries.now later ((c.args.s.now, c.args.e.now), c.args.targets.now) ((c.second_turn_at.new.s, c.second_turn_at.new.e), c.second_turn_at.new.targets) c.in_err-so_far.field-0.0 c.from_residual.result c.from_residual.ensures.1
    (c.loop-place.invariant later (Err c.in_err-so_far.field-0.0) ((c.second_turn_at.new.s, c.second_turn_at.new.e), c.second_turn_at.new.targets)
    (turns_fail (indexed (whole g.S.Steps.sense g.R.Remote.told)) second_turn c.args.entries.now c.args.places.now c.loop-place.place-index (get_or c.args.places.now c.loop-place.place-index 0) (fed c.args.entries.now c.loop-place.postponed later) ((c.loop-place.s, c.loop-place.e), c.loop-place.targets) ((c.second_turn_at.new.s, c.second_turn_at.new.e), c.second_turn_at.new.targets) c.in_err-so_far.field-0.0
    c.loop-place-test.true (there c.args.places.now c.loop-place.place-index 0 (get_or c.args.places.now c.loop-place.place-index 0) c.loop-place-test.true) (c.in_err-so_far.ensures later)))

pub loop-place-preserved : goal.loop-place-preserved
loop-place-preserved g c = λ later. λ r u d. c.loop-place.invariant later r u
    (turns_more (indexed (whole g.S.Steps.sense g.R.Remote.told)) second_turn c.args.entries.now c.args.places.now c.loop-place.place-index (get_or c.args.places.now c.loop-place.place-index 0) (fed c.args.entries.now c.loop-place.postponed later) (fed c.args.entries.now c.in_ok-so_far.so_far later) ((c.loop-place.s, c.loop-place.e), c.loop-place.targets) ((c.second_turn_at.new.s, c.second_turn_at.new.e), c.second_turn_at.new.targets) u r
    c.loop-place-test.true (there c.args.places.now c.loop-place.place-index 0 (get_or c.args.places.now c.loop-place.place-index 0) c.loop-place-test.true) (c.in_ok-so_far.ensures later) d)

pub returns : goal.returns
returns g c = λ later. c.loop-place.invariant later (Ok (fed c.args.entries.now c.loop-place.postponed later)) ((c.loop-place.s, c.loop-place.e), c.loop-place.targets) (turns_end (indexed (whole g.S.Steps.sense g.R.Remote.told)) second_turn c.args.entries.now c.args.places.now c.loop-place.place-index (fed c.args.entries.now c.loop-place.postponed later) ((c.loop-place.s, c.loop-place.e), c.loop-place.targets) c.loop-place-test.false)
