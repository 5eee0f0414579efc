use Rattle.cf_engine_feed.specs.Indexed.{indexed}
use Rattle.std.proofs.Common.{subst, sym, Bool}
use Rattle.std.specs.Prelude.{Ok, slice_get}
use Rattle.cf_engine_steps.specs.Answering.{Answers, Any}
use Rattle.cf_engine_steps.specs.States.{whole}
use Rattle.cf_engine_feed.specs.Turns.{fed, turn_at}
use Rattle.cf_engine_feed.proofs.FeedTurns.{fed_err}
use Rattle.cf_engine_feed.proofs.PlannedTurns.{entry_there, second_fails, second_now}
use Rattle.cf_model.specs.Feeds.{second_turn}
use Rattle.cf_engine_feed.proofs.turn_lists.second_turn_at.Goals as goal

pub returns-in_err-now : goal.returns-in_err-now
returns-in_err-now g c = λ later. fed_err (indexed (whole g.S.Steps.sense g.R.Remote.told)) (turn_at second_turn (slice_get c.args.entries.now c.args.place) (fed c.args.entries.now c.args.postponed later)) c.args.entries.now later ((c.args.s.now, c.args.e.now), c.args.targets.now) ((c.take_turn.new.s, c.take_turn.new.e), c.take_turn.new.targets) c.in_err-now.field-0.0 c.from_residual.result c.from_residual.ensures.1
    (second_fails (indexed (whole g.S.Steps.sense g.R.Remote.told)) c.args.entries.now c.args.place c.args.postponed later c.in-Some.entry.now ((c.args.s.now, c.args.e.now), c.args.targets.now) ((c.take_turn.new.s, c.take_turn.new.e), c.take_turn.new.targets) (entry_there c.args.entries.now c.args.place c.in-Some.entry.now c.in-Some.ensures.lookup.0 c.in-Some.ensures.lookup.1) c.in_err-now.field-0.0 c.in_err-now.ensures)

pub returns : goal.returns
returns g c = λ later. subst (λ (b : Bool). Answers (indexed (whole g.S.Steps.sense g.R.Remote.told)) Any (turn_at second_turn (slice_get c.args.entries.now c.args.place) (fed c.args.entries.now c.args.postponed later)) ((c.args.s.now, c.args.e.now), c.args.targets.now) (Ok (fed c.args.entries.now b later)) ((c.take_turn.new.s, c.take_turn.new.e), c.take_turn.new.targets)) (sym c.either.ensures)
    (second_now (indexed (whole g.S.Steps.sense g.R.Remote.told)) c.args.entries.now c.args.place c.args.postponed later c.in-Some.entry.now ((c.args.s.now, c.args.e.now), c.args.targets.now) ((c.take_turn.new.s, c.take_turn.new.e), c.take_turn.new.targets) (entry_there c.args.entries.now c.args.place c.in-Some.entry.now c.in-Some.ensures.lookup.0 c.in-Some.ensures.lookup.1) c.in_ok-now.now c.in_ok-now.ensures)
