use Rattle.std.proofs.Common.{◌≡◌, ◌++◌, ◌∙◌, ℕ, List, ap, take}
use Rattle.std.proofs.lemmas.List.{take-append-drop}
use Rattle.cf_report.proofs.Digits.{digits_more}
use Rattle.cf_report.specs.Words.{hex_digits}
use Rattle.cf_report.proofs.words.push_digits.Goals as goal

pub loop-rest-preserved : goal.loop-rest-preserved
loop-rest-preserved c =
    let rest : List ℕ = c.loop-rest.rest.now in
    let parted : c.split_at.result.0.now ++ c.split_at.result.1.now ≡ rest =
    ap (λ (f : List ℕ). f ++ c.split_at.result.1.now) c.split_at.ensures.front ∙ ap (λ (b : List ℕ). take c.min.result rest ++ b) c.split_at.ensures.back ∙ take-append-drop c.min.result rest in
    ap (λ (ds : List ℕ). ds ++ hex_digits c.split_at.result.1.now) c.in_ok-push_piece.ensures
    ∙ digits_more c.loop-rest.out.items c.split_at.result.0.now c.split_at.result.1.now rest parted
    ∙ c.loop-rest.invariant
