use Rattle.cf_script.specs.Forms.{IsWordLine}
use Rattle.cf_script_words.proofs.Shapes.{of_one}
use Rattle.cf_script.proofs.command_lines.on_word.Goals as goal

pub returns-in-len1 : goal.returns-in-len1
returns-in-len1 c = of_one (IsWordLine c.args.command) c.args.words.now c.word_line.result c.in-len1.len_at_least c.in-len1.len_below c.word_line.ensures
