use Rattle.std.proofs.Common.{◌≡◌}
use Rattle.std.proofs.lemmas.Result.{IfOk-weaker}
use Rattle.cf_script_words.specs.Words.{Reads, IsKey}
use Rattle.cf_script_words.specs.Names.{operation_name}
use Rattle.cf_script.specs.Forms.{IsDo, IsDone}
use Rattle.cf_script_words.proofs.WordLists.{texts}
use Rattle.cf_script_words.proofs.PartsRead.{both_read}
use Rattle.cf_script.proofs.operations.do_line.Goals as goal

pub returns : goal.returns
returns c = IfOk-weaker c.done.result (Reads (IsDone c.in-Some.command c.in-Some-key.key (texts c.args.rest.now))) (Reads (IsDo c.args.word.now c.args.key_word.now (texts c.args.rest.now)))
    (λ o h. both_read (λ d. c.args.word.now ≡ operation_name d) (IsKey c.args.key_word.now) (λ d key e. IsDone d key (texts c.args.rest.now) e) c.in-Some.command c.in-Some-key.key o c.in-Some.ensures c.in-Some-key.ensures h)
    c.done.ensures
