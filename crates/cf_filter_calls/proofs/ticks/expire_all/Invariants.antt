use Rattle.std.proofs.Common.{drop}
use Rattle.std.specs.Prelude.{Result}
use Rattle.cf_base.specs.declared.codes.CallError.{CallError}
use Rattle.cf_model.specs.Arrows.{each}
use Rattle.cf_model.specs.Waits.{expire}
use Rattle.cf_filter_steps.specs.Answering.{Answers, Any}
use Rattle.cf_filter_calls.proofs.ticks.expire_all.Given as goal

-- what answers the rest answers all
abbrev pub invariant-loop-key : goal.invariant-loop-key
invariant-loop-key g l = (r : Result (Unit {0}) CallError) (u : _)
    → Answers g.S.Steps.sense Any (each expire (drop l.key-index l.keys)) l.s r u → Answers g.S.Steps.sense Any (each expire l.keys) l.fn.s r u
