use Rattle.std.proofs.Common.{◌≡◌}
use Rattle.std.proofs.lemmas.Result.{IfOk-weaker}
use Rattle.cf_script_words.specs.Words.{Reads}
use Rattle.cf_script_words.specs.Names.{operation_name}
use Rattle.cf_script.specs.Forms.{IsPlan, IsPlanKey, IsPlanned}
use Rattle.cf_script_words.proofs.WordLists.{texts}
use Rattle.cf_script_words.proofs.PartsRead.{both_read}
use Rattle.cf_script.proofs.operations.plan.Goals as goal

pub returns : goal.returns
returns c = IfOk-weaker c.planned.result (Reads (IsPlanned c.in-Some.command c.in-Some-plan_key.key (texts c.args.rest.now))) (Reads (IsPlan c.args.word.now c.args.key_word.now (texts c.args.rest.now)))
    (λ o h. both_read (λ d. c.args.word.now ≡ operation_name d) (IsPlanKey c.args.key_word.now) (λ d key e. IsPlanned d key (texts c.args.rest.now) e) c.in-Some.command c.in-Some-plan_key.key o c.in-Some.ensures c.in-Some-plan_key.ensures h)
    c.planned.ensures
