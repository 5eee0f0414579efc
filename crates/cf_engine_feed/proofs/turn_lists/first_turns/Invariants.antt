use Rattle.cf_engine_feed.specs.Indexed.{indexed}
use Rattle.std.proofs.Common.{drop, false}
use Rattle.std.specs.Prelude.{Result}
use Rattle.cf_base.specs.declared.codes.CallError.{CallError}
use Rattle.cf_engine_feed.specs.Turns.{entries_at, fed}
use Rattle.cf_engine_steps.specs.Answering.{Answers, Any}
use Rattle.cf_engine_steps.specs.States.{whole}
use Rattle.cf_model.specs.Feeds.{Fed, first_turn, turns}
use Rattle.cf_engine_feed.proofs.turn_lists.first_turns.Given as goal

-- what the turns that are left answer all answer
abbrev pub invariant-loop-place : goal.invariant-loop-place
invariant-loop-place g l = (r : Result Fed CallError) (u : _)
    → Answers (indexed (whole g.S.Steps.sense g.R.Remote.told)) Any (turns first_turn (entries_at l.entries (drop l.place-index l.places)) (fed l.entries l.postponed l.later.items)) ((l.s, l.e), l.targets) r u
    → Answers (indexed (whole g.S.Steps.sense g.R.Remote.told)) Any (turns first_turn (entries_at l.entries l.places) (fed l.entries false l.fn.later.items)) ((l.fn.s, l.fn.e), l.fn.targets) r u
