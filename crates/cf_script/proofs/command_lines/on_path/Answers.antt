use Rattle.std.proofs.lemmas.Result.{IfOk-weaker}
use Rattle.cf_script_words.specs.Words.{Reads}
use Rattle.cf_script_words.specs.Shapes.{OfOne}
use Rattle.cf_script.specs.Forms.{IsPathLine}
use Rattle.cf_script_words.proofs.WordLists.{texts}
use Rattle.cf_script_words.proofs.Shapes.{of_one, word_at}
use Rattle.cf_script.proofs.command_lines.on_path.Goals as goal

pub returns-in-len1 : goal.returns-in-len1
returns-in-len1 c = IfOk-weaker c.path_line.result (Reads (IsPathLine c.args.command (word_at 0 c.args.words.now))) (Reads (OfOne (IsPathLine c.args.command) (texts c.args.words.now))) (λ o h. of_one (IsPathLine c.args.command) c.args.words.now o c.in-len1.len_at_least c.in-len1.len_below h) c.path_line.ensures
