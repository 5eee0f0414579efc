use Rattle.std.proofs.Common.{lit<}
use Rattle.std.proofs.lemmas.Str.Pattern.{split_parts}
use Rattle.cf_script_words.proofs.byte_words.cut_at_star.Goals as goal

pub returns : goal.returns
returns c = split_parts 42 c.args.word.now c.split_once.result c.split_once.ensures.cases (lit< tt)
