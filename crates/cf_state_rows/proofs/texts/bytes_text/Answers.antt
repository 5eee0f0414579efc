use Rattle.std.proofs.Common.{◌≡◌, ◌∙◌, sym, ℕ, ◌==◌, true, false, List, [], ◌∷◌, length}
use Rattle.hex.specs.Hex.{encode_lower}
use Rattle.cf_report.proofs.Digits.{hex_same}
use Rattle.cf_report.specs.Words.{bytes_text}
use Rattle.cf_state_rows.proofs.texts.bytes_text.Goals as goal

digits_are : (bs text : List ℕ) → (length bs == 0) ≡ false → text ≡ encode_lower bs → text ≡ bytes_text bs
digits_are [] text some e = let z : true ≡ false = some in absurd cc
digits_are (b ∷ bs) text some e = e ∙ hex_same (b ∷ bs)

pub returns : goal.returns
returns c = digits_are c.args.bytes.now _ (sym c.is_empty.ensures ∙ c.if-is_empty.false) c.in_ok-encode.ensures
