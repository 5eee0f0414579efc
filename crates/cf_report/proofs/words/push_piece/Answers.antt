use Rattle.std.proofs.Common.{◌++◌, ◌∙◌, ℕ, ◌+◌, ◌*◌, List, ap, length, arith}
use Rattle.cf_report.proofs.Growing.{grown_front}
use Rattle.cf_report.specs.Words.{hex_digits}
use Rattle.cf_report.proofs.words.push_piece.Goals as goal

pub put_digits_vec-requires : goal.put_digits_vec-requires
put_digits_vec-requires c = omega (arith, c.in_ok-resize.ensures.len, c.resize.new.self.ok)

pub returns : goal.returns
returns c =
    let old = c.args.out.now.items in
    let start = c.len-start.result in
    c.put_digits_vec.ensures
    ∙ ap (λ (l : List ℕ). l ++ hex_digits c.args.piece.now)
    (grown_front old c.resize.new.self.items _ (start + 2 * length c.args.piece.now) start (omega (arith, c.len-start.ensures, c.args.out.now.ok)) (omega arith) c.in_ok-resize.ensures.items)
