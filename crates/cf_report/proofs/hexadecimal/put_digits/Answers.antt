use Rattle.std.proofs.Common.{◌++◌, ◌∙◌, List, ℕ, ap, take}
use Rattle.cf_report.proofs.Digits.{hex_same}
use Rattle.cf_report.proofs.hexadecimal.put_digits.Goals as goal

pub returns : goal.returns
returns c =
    ap (λ (l : List ℕ). l ++ c.encode_to_slice.new.output) c.split_at_mut-digits.ensures.front
    ∙ ap (λ (l : List ℕ). take c.args.start c.args.out.now ++ l) (c.in-Ok.ensures.written ∙ hex_same c.args.bytes.now)
