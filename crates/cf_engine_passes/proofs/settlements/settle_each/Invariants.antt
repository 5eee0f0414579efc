use Rattle.std.proofs.Common.{drop}
use Rattle.std.specs.Prelude.{Result}
use Rattle.cf_base.specs.declared.codes.CallError.{CallError}
use Rattle.cf_engine_passes.specs.Settlements.{settle_one}
use Rattle.cf_engine_steps.specs.Answering.{Answers, Any}
use Rattle.cf_engine_steps.specs.States.{whole}
use Rattle.cf_model.specs.Arrows.{each}
use Rattle.cf_engine_passes.proofs.settlements.settle_each.Given as goal

-- what the entries that are left answer all answer
abbrev pub invariant-loop-entry : goal.invariant-loop-entry
invariant-loop-entry g l = (r : Result (Unit {0}) CallError) (u : _) → Answers (whole g.S.Steps.sense g.R.Remote.told) Any (each settle_one (drop l.entry-index l.entries)) (l.s, l.e) r u → Answers (whole g.S.Steps.sense g.R.Remote.told) Any (each settle_one l.entries) (l.fn.s, l.fn.e) r u
