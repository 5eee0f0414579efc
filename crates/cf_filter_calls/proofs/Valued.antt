-- A call that is given as a value, from what its function does.
use Rattle.std.proofs.Common.{◌≡◌, subst, sym}
use Rattle.std.specs.Prelude.{Result}
use Rattle.cf_base.specs.declared.answers.Shown.{Shown}
use Rattle.cf_base.specs.declared.codes.CallError.{CallError}
use Rattle.cf_filter_calls.specs.Parts.{asking_part, plain_part, question_part}
use Rattle.cf_filter_calls.specs.declared.call_values.AskingCall.{AskingCall}
use Rattle.cf_filter_calls.specs.declared.call_values.PlainCall.{PlainCall}
use Rattle.cf_filter_calls.specs.declared.call_values.Question.{Question}
use Rattle.cf_filter_steps.specs.Answering.{Answers, Any, Sense}

module _ {X : Type 0} (S : Sense X) (old new : X) (r : Result Shown CallError) where
  pub plain_as : (c d : PlainCall) → c ≡ d → Answers S Any (plain_part d) old r new → Answers S Any (plain_part c) old r new
  plain_as c d e h = subst (λ (x : PlainCall). Answers S Any (plain_part x) old r new) (sym e) h

  pub asking_as : (c d : AskingCall) → c ≡ d → Answers S Any (asking_part d) old r new → Answers S Any (asking_part c) old r new
  asking_as c d e h = subst (λ (x : AskingCall). Answers S Any (asking_part x) old r new) (sym e) h

  pub question_as : (c d : Question) → c ≡ d → Answers S Any (question_part d) old r new → Answers S Any (question_part c) old r new
  question_as c d e h = subst (λ (x : Question). Answers S Any (question_part x) old r new) (sym e) h
