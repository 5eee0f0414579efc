use Rattle.std.proofs.Common.{drop}
use Rattle.std.specs.Prelude.{Result}
use Rattle.cf_base.specs.declared.codes.CallError.{CallError}
use Rattle.cf_engine_steps.specs.Answering.{Answers, Any}
use Rattle.cf_engine_steps.specs.States.{whole}
use Rattle.cf_engine_uploads.specs.Turns.{push_one}
use Rattle.cf_model.specs.Arrows.{each}
use Rattle.cf_engine_uploads.proofs.push_lists.push_tombstones.Given as goal

-- what the turns that are left answer all answer
abbrev pub invariant-loop-one : goal.invariant-loop-one
invariant-loop-one g l = (r : Result (Unit {0}) CallError) (u : _) → Answers (whole g.S.Steps.sense g.R.Remote.told) Any (each push_one (drop l.one-index l.tombstones)) (l.s, l.e) r u → Answers (whole g.S.Steps.sense g.R.Remote.told) Any (each push_one l.tombstones) (l.fn.s, l.fn.e) r u
