use Rattle.std.proofs.Common.{◌-◌, ◌≤◌, drop, length}
use Rattle.std.specs.Prelude.{Result}
use Rattle.cf_base.specs.declared.codes.CallError.{CallError}
use Rattle.cf_engine_steps.specs.Answering.{Answers, Any}
use Rattle.cf_engine_steps.specs.States.{whole}
use Rattle.cf_model.specs.Pushes.{push_turn}
use Rattle.cf_model.specs.Arrows.{each}
use Rattle.cf_engine_uploads.proofs.push_lists.push_items.Given as goal

-- what the turns that are left answer all answer
abbrev pub invariant-loop-turn : goal.invariant-loop-turn
invariant-loop-turn g l = record {
  left : (r : Result (Unit {0}) CallError) (u : _) → Answers (whole g.S.Steps.sense g.R.Remote.told) Any (each push_turn (drop l.from l.ids)) (l.s, l.e) r u → Answers (whole g.S.Steps.sense g.R.Remote.told) Any (each push_turn l.ids) (l.fn.s, l.fn.e) r u;
  within : l.from ≤ length l.ids;
}

abbrev pub decreases-loop-turn : goal.decreases-loop-turn
decreases-loop-turn g l = length l.ids - l.from
