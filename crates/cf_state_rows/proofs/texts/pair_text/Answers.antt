use Rattle.std.proofs.Common.{◌≡◌, ◌∙◌, ap, ℕ, ◌<◌, ◌^◌, List, [], ◌∷◌, ◌++◌, append_assoc, arith}
use Rattle.std.specs.Fmt as fmt
use Rattle.std.specs.Prelude.{string_bytes}
use Rattle.cf_report.proofs.Decimals.{decimal_same}
use Rattle.cf_report.specs.Words.{decimal, pair_text}
use Rattle.cf_state_rows.proofs.texts.pair_text.Goals as goal

dotted : (e p : ℕ) (text dot front whole : List ℕ) → e < 2 ^ 64 → p < 2 ^ 64 → text ≡ fmt.decimal e → dot ≡ 46 ∷ [] → front ≡ text ++ dot → whole ≡ front ++ fmt.decimal p → whole ≡ pair_text e p
dotted e p text dot front whole few less first is second third =
    let epoch : text ≡ decimal e = first ∙ decimal_same e few in
    third ∙ ap (λ (x : List ℕ). x ++ fmt.decimal p) (second ∙ (λ j. epoch j ++ is j)) ∙ append_assoc (decimal e) (46 ∷ []) (fmt.decimal p)
    ∙ ap (λ (x : List ℕ). decimal e ++ 46 ∷ x) (decimal_same p less)

pub returns : goal.returns
returns c =
    dotted c.args.epoch c.args.place _ _ _ _ (omega (arith, c.ranges.epoch)) (omega (arith, c.ranges.place)) (c.in_ok-text.ensures.ok ∙ c.format.ensures.text) (c.push.ensures.ascii (omega arith))
    c.in_ok-push.ensures.bytes (c.in_ok-push_str.ensures.bytes ∙ ap (λ (x : List ℕ). string_bytes c.push.new.self ++ x) c.format-2.ensures.text)
