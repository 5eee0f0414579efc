use Rattle.std.proofs.Common.{◌∙◌, sym, ap, Ok}
use Rattle.hex.proofs.HexLemmas.{decode_of-ok}
use Rattle.hex.specs.Hex.{encode_lower}
use Rattle.cf_script_words.specs.Words.{IsHex}
use Rattle.cf_script_words.proofs.DataMeans.{refused_reads, hex_other, hex_reads, same_text}
use Rattle.cf_script_words.proofs.byte_words.digits.Goals as goal

pub returns-in-Err : goal.returns-in-Err
returns-in-Err c = refused_reads c.args.word.now c.in-Err.e c.refused.result c.refused.ensures c.in-Err.ensures.err

pub returns-then-eq : goal.returns-then-eq
returns-then-eq c =
    let is : IsHex c.args.word.now c.from_vec.result = (rw c.from_vec.ensures (decode_of-ok c.args.word.now c.in-Ok.bytes.items c.in-Ok.ensures.ok).3, sym (same_text _ _ (sym c.eq.ensures ∙ c.if-eq.true)) ∙ c.as_str.ensures.value ∙ c.in_ok-again.ensures ∙ ap encode_lower (c.as_slice.ensures.value ∙ sym c.from_vec.ensures)) in
    hex_reads c.args.word.now c.from_vec.result is

pub returns-else-eq : goal.returns-else-eq
returns-else-eq c = hex_other c.args.word.now c.as_str.result.now c.as_slice.result.now (c.in-Ok.ensures.ok ∙ ap Ok (sym c.as_slice.ensures.value)) (c.as_str.ensures.value ∙ c.in_ok-again.ensures) (sym c.eq.ensures ∙ c.if-eq.false)
