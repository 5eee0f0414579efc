use Rattle.std.proofs.Common.{drop}
use Rattle.std.specs.Prelude.{Result}
use Rattle.cf_base.specs.declared.codes.CallError.{CallError}
use Rattle.cf_model.specs.Arrows.{each}
use Rattle.cf_model.specs.Settling.{end_wait}
use Rattle.cf_filter_steps.specs.Answering.{Answers}
use Rattle.cf_filter_steps.specs.Settled.{AreOnFiles}
use Rattle.cf_filter_steps.proofs.ask_steps.end_all.Given as goal

-- what answers the rest answers all
abbrev pub invariant-loop-e : goal.invariant-loop-e
invariant-loop-e g l = (r : Result (Unit {0}) CallError) (u : _)
    → Answers g.S.Steps.sense (AreOnFiles (drop l.e-index l.ended)) (each end_wait (drop l.e-index l.ended)) l.s r u → Answers g.S.Steps.sense (AreOnFiles l.ended) (each end_wait l.ended) l.fn.s r u
