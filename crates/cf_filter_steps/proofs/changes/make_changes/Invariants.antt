use Rattle.std.proofs.Common.{drop}
use Rattle.std.specs.Prelude.{Result}
use Rattle.cf_base.specs.declared.codes.CallError.{CallError}
use Rattle.cf_model.specs.Changes.{changes}
use Rattle.cf_filter_steps.specs.Answering.{Answers}
use Rattle.cf_filter_steps.specs.Suiting.{ReadyAll}
use Rattle.cf_filter_steps.proofs.changes.make_changes.Given as goal

-- what answers the rest answers all
abbrev pub invariant-loop-change : goal.invariant-loop-change
invariant-loop-change g l = (r : Result (Unit {0}) CallError) (u : _)
    → Answers g.S.Steps.sense (ReadyAll (drop l.change-index l.changes)) (changes (drop l.change-index l.changes)) l.s r u → Answers g.S.Steps.sense (ReadyAll l.changes) (changes l.changes) l.fn.s r u
