use Rattle.std.proofs.lemmas.Result.{IfOk-weaker}
use Rattle.cf_script_words.specs.Words.{Reads, IsRepeated, IsPlain, IsData}
use Rattle.cf_script_words.proofs.DataMeans.{star_read, plain_read}
use Rattle.cf_script_words.proofs.byte_words.data.Goals as goal

pub returns-in-Some : goal.returns-in-Some
returns-in-Some c = IfOk-weaker c.repeated.result (Reads (IsRepeated c.in-Some.byte.now c.in-Some.count.now)) (Reads (IsData c.args.word.now)) (λ o h. star_read c.args.word.now c.in-Some.byte.now c.in-Some.count.now o c.in-Some.ensures.0 c.in-Some.ensures.1 h) c.repeated.ensures

pub returns-in-None : goal.returns-in-None
returns-in-None c = IfOk-weaker c.plain.result (Reads (IsPlain c.args.word.now)) (Reads (IsData c.args.word.now)) (λ o h. plain_read c.args.word.now o c.in-None.ensures h) c.plain.ensures
