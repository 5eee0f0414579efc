use Rattle.std.proofs.Common.{drop}
use Rattle.std.specs.Prelude.{Result}
use Rattle.cf_base.specs.declared.codes.CallError.{CallError}
use Rattle.cf_engine_steps.specs.Answering.{Answers, Any}
use Rattle.cf_engine_steps.specs.States.{whole}
use Rattle.cf_model.specs.Arrows.{each}
use Rattle.cf_model.specs.Space.{dehydrate_whole}
use Rattle.cf_engine_space.proofs.spaces.dehydrate_each.Given as goal

-- what the files that are left answer all answer
abbrev pub invariant-loop-id : goal.invariant-loop-id
invariant-loop-id g l = (r : Result (Unit {0}) CallError) (u : _) → Answers (whole g.S.Steps.sense g.R.Remote.told) Any (each dehydrate_whole (drop l.id-index l.ids)) (l.s, l.e) r u → Answers (whole g.S.Steps.sense g.R.Remote.told) Any (each dehydrate_whole l.ids) (l.fn.s, l.fn.e) r u
