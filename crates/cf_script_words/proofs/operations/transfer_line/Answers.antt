use Rattle.std.proofs.lemmas.Result.{IfOk-weaker}
use Rattle.cf_script_words.specs.Words.{Reads}
use Rattle.cf_script_words.specs.Shapes.{OfTwo}
use Rattle.cf_script_words.specs.Operations.{IsTransfer}
use Rattle.cf_script_words.proofs.WordLists.{texts}
use Rattle.cf_script_words.proofs.Shapes.{of_two, word_at}
use Rattle.cf_script_words.proofs.operations.transfer_line.Goals as goal

pub returns-in-len2 : goal.returns-in-len2
returns-in-len2 c = IfOk-weaker c.transfer.result (Reads (IsTransfer c.args.key (word_at 0 c.args.words.now) (word_at 1 c.args.words.now))) (Reads (OfTwo (IsTransfer c.args.key) (texts c.args.words.now))) (λ o h. of_two (IsTransfer c.args.key) c.args.words.now o c.in-len2.len_at_least c.in-len2.len_below h) c.transfer.ensures
