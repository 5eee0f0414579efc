use Rattle.std.proofs.lemmas.Result.{IfOk-weaker}
use Rattle.cf_script_words.specs.Words.{Reads}
use Rattle.cf_script_words.specs.Shapes.{OfThree}
use Rattle.cf_script.specs.Forms.{IsThreeWordLine}
use Rattle.cf_script_words.proofs.WordLists.{texts}
use Rattle.cf_script_words.proofs.Shapes.{of_three, word_at}
use Rattle.cf_script.proofs.command_lines.on_three.Goals as goal

pub returns-in-len3 : goal.returns-in-len3
returns-in-len3 c = IfOk-weaker c.three_word_line.result (Reads (IsThreeWordLine c.args.command (word_at 0 c.args.words.now) (word_at 1 c.args.words.now) (word_at 2 c.args.words.now))) (Reads (OfThree (IsThreeWordLine c.args.command) (texts c.args.words.now))) (λ o h. of_three (IsThreeWordLine c.args.command) c.args.words.now o c.in-len3.len_at_least c.in-len3.len_below h) c.three_word_line.ensures
