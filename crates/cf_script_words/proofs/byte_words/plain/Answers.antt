use Rattle.std.proofs.Common.{◌∙◌, sym, arith}
use Rattle.std.proofs.lemmas.Bool.{eqb-true}
use Rattle.std.proofs.lemmas.Result.{IfOk-weaker}
use Rattle.cf_script_words.specs.Words.{Reads, IsHex, IsPlain}
use Rattle.cf_script_words.proofs.DataMeans.{data_not_empty, data_read, hyphen_reads, same_text}
use Rattle.cf_script_words.proofs.byte_words.plain.Goals as goal

pub returns-then-is_empty : goal.returns-then-is_empty
returns-then-is_empty c = λ x is. data_not_empty c.args.word.now x (eqb-true _ _ (sym c.is_empty.ensures ∙ c.if-is_empty.true)) is

pub returns : goal.returns
returns c = IfOk-weaker c.digits.result (Reads (IsHex c.args.word.now)) (Reads (IsPlain c.args.word.now)) (λ o h. data_read c.args.word.now o (sym c.eq.ensures ∙ c.if-eq.false) (let e = c.is_empty.ensures in grind arith) h) c.digits.ensures

pub returns-then-eq : goal.returns-then-eq
returns-then-eq c = rw (c.from_vec.ensures, c.new.ensures.items) (hyphen_reads c.args.word.now (same_text _ _ (sym c.eq.ensures ∙ c.if-eq.true)))
