use Rattle.cf_script_words.proofs.NumberMeans.{key_reads, key_needs_dot}
use Rattle.cf_script_words.proofs.numbers.key.Goals as goal

pub returns-in-Some : goal.returns-in-Some
returns-in-Some c = key_reads c.args.word.now c.in-Some.epoch.now c.in-Some.number.now c.key_of.result c.in-Some.ensures.0 c.in-Some.ensures.1 c.key_of.ensures

pub returns-in-None : goal.returns-in-None
returns-in-None c = λ key is. key_needs_dot c.args.word.now key c.in-None.ensures is
