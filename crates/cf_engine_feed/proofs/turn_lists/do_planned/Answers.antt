use Rattle.cf_engine_feed.specs.Indexed.{indexed}
use Rattle.std.proofs.Common.{subst, sym, Bool}
use Rattle.std.specs.Prelude.{Ok}
use Rattle.cf_engine_steps.specs.Answering.{Answers, Any}
use Rattle.cf_engine_steps.specs.States.{whole}
use Rattle.cf_engine_feed.specs.Turns.{fed, planned}
use Rattle.cf_engine_feed.proofs.FeedTurns.{fed_err}
use Rattle.cf_engine_feed.proofs.PlannedTurns.{planned_fails, planned_now}
use Rattle.cf_engine_feed.proofs.turn_lists.do_planned.Goals as goal
use Rattle.std.proofs.Common.{◌∙◌}

pub returns-in_err-now : goal.returns-in_err-now
returns-in_err-now g c = λ es. fed_err (indexed (whole g.S.Steps.sense g.R.Remote.told)) (planned es c.args.turn.now c.args.place c.args.postponed c.args.later.now.items) es c.args.later.now.items ((c.args.s.now, c.args.e.now), c.args.targets.now) ((c.do_turn.new.s, c.do_turn.new.e), c.do_turn.new.targets) c.in_err-now.field-0.0 c.from_residual-in_err-now.result c.from_residual-in_err-now.ensures.1
    (planned_fails (indexed (whole g.S.Steps.sense g.R.Remote.told)) es c.args.turn.now c.args.place c.args.postponed c.args.later.now.items ((c.args.s.now, c.args.e.now), c.args.targets.now) ((c.do_turn.new.s, c.do_turn.new.e), c.do_turn.new.targets) c.in_err-now.field-0.0 (sym c.comes_again.ensures ∙ c.if-comes_again.false) c.in_err-now.ensures)

pub returns : goal.returns
returns g c = λ es. subst (λ (b : Bool). Answers (indexed (whole g.S.Steps.sense g.R.Remote.told)) Any (planned es c.args.turn.now c.args.place c.args.postponed c.args.later.now.items) ((c.args.s.now, c.args.e.now), c.args.targets.now) (Ok (fed es b c.args.later.now.items)) ((c.do_turn.new.s, c.do_turn.new.e), c.do_turn.new.targets)) (sym c.either.ensures)
    (planned_now (indexed (whole g.S.Steps.sense g.R.Remote.told)) es c.args.turn.now c.args.place c.args.postponed c.args.later.now.items ((c.args.s.now, c.args.e.now), c.args.targets.now) ((c.do_turn.new.s, c.do_turn.new.e), c.do_turn.new.targets) c.in_ok-now.now (sym c.comes_again.ensures ∙ c.if-comes_again.false) c.in_ok-now.ensures)
