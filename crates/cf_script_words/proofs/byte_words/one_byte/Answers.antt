use Rattle.std.proofs.Common.{sym, ◌∙◌, length, ap}
use Rattle.cf_script_words.proofs.DataMeans.{not_one, byte_reads}
use Rattle.cf_script_words.proofs.byte_words.one_byte.Goals as goal

pub returns-then-bytes-ne1 : goal.returns-then-bytes-ne1
returns-then-bytes-ne1 c =
    let is = rw c.in-Some.is at c.in_ok-bytes.ensures in
    not_one c.args.word.now c.in-Some.bytes is.0 (λ e. c.if-bytes-ne1.true (ap length c.as_slice-bytes.ensures ∙ e))

pub returns : goal.returns
returns c = rw c.as_slice-bytes.ensures (byte_reads c.args.word.now c.in-Some.bytes (rw c.in-Some.is at c.in_ok-bytes.ensures) (sym (ap length c.as_slice-bytes.ensures) ∙ c.if-bytes-ne1.false))
