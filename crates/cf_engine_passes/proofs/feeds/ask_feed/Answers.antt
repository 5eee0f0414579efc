use Rattle.cf_engine_steps.specs.Answering.{Any}
use Rattle.cf_engine_steps.specs.States.{whole}
use Rattle.cf_engine_steps.proofs.Laws.{fails_first, with_err}
use Rattle.cf_engine_passes.proofs.Passed.{asked, not_asked}
use Rattle.cf_model.specs.Passes.{ask_feed, feed_if, try_round}
use Rattle.cf_engine_passes.proofs.feeds.ask_feed.Goals as goal

pub returns-in_err-try_round : goal.returns-in_err-try_round
returns-in_err-try_round g c = with_err (whole g.S.Steps.sense g.R.Remote.told) Any ask_feed (c.args.s.now, c.args.e.now) (c.try_round.new.s, c.try_round.new.e) c.in_err-try_round.field-0.0 c.from_residual.result c.from_residual.ensures.1
    (fails_first (whole g.S.Steps.sense g.R.Remote.told) Any try_round feed_if (c.args.s.now, c.args.e.now) (c.try_round.new.s, c.try_round.new.e) c.in_err-try_round.field-0.0 c.in_err-try_round.ensures)

pub returns-then-not-branch : goal.returns-then-not-branch
returns-then-not-branch g c = not_asked (whole g.S.Steps.sense g.R.Remote.told) (c.args.s.now, c.args.e.now) (c.try_round.new.s, c.try_round.new.e) c.in_ok-try_round.field-0 c.in_ok-try_round.ensures c.if-not-branch.true

pub returns : goal.returns
returns g c = asked (whole g.S.Steps.sense g.R.Remote.told) (c.args.s.now, c.args.e.now) (c.try_round.new.s, c.try_round.new.e) c.in_ok-try_round.field-0 c.in_ok-try_round.ensures (c.send_feed.new.s, c.send_feed.new.e) c.send_feed.result c.if-not-branch.false c.send_feed.ensures
