use Rattle.cf_script_words.proofs.NumberMeans.{usn_reads}
use Rattle.cf_script_words.proofs.numbers.usn.Goals as goal

pub returns-in-Some : goal.returns-in-Some
returns-in-Some c = usn_reads c.args.word.now c.in-Some.key c.in-Some.ensures

pub returns-in-None : goal.returns-in-None
returns-in-None c = let none = c.in-None.ensures in λ y is. none (record { epoch = y.epoch; number = y.place }) is
