use Rattle.std.proofs.lemmas.Result.{IfOk-weaker}
use Rattle.cf_script_words.specs.Words.{Reads}
use Rattle.cf_script_words.specs.Shapes.{OfTwoOrMore}
use Rattle.cf_script.specs.Forms.{IsLongLine}
use Rattle.cf_script_words.proofs.WordLists.{texts, after}
use Rattle.cf_script_words.proofs.Shapes.{of_two_or_more, word_at}
use Rattle.cf_script.proofs.command_lines.long.Goals as goal

pub returns-in-len2-up : goal.returns-in-len2-up
returns-in-len2-up c = IfOk-weaker c.long_line.result (Reads (IsLongLine c.args.command (word_at 0 c.args.words.now) (word_at 1 c.args.words.now) (texts (after 2 c.args.words.now)))) (Reads (OfTwoOrMore (IsLongLine c.args.command) (texts c.args.words.now))) (λ o h. of_two_or_more (IsLongLine c.args.command) c.args.words.now o c.in-len2-up.len_at_least h) c.long_line.ensures
