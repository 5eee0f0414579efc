use Rattle.std.proofs.Common.{◌≡◌, ◌∙◌, ◌++◌, length, ap, arith}
use Rattle.cf_table.proofs.Fields.{eight_bytes}
use Rattle.cf_volume_changes.proofs.seen_keys.seen_key.Goals as goal

pub returns-clause-key : goal.returns-clause-key
returns-clause-key c = c.from_vec.ensures ∙ c.in_ok-extend_from_slice.ensures.items ∙ (λ j. c.in_ok-key.ensures.items j ++ (c.to_be_bytes.ensures ∙ eight_bytes c.args.id.0) j)

pub returns-clause-short : goal.returns-clause-short
returns-clause-short c =
    let n : length c.from_vec.result ≡ 9 = ap length (c.from_vec.ensures ∙ c.in_ok-extend_from_slice.ensures.items ∙ (λ j. c.in_ok-key.ensures.items j ++ (c.to_be_bytes.ensures ∙ eight_bytes c.args.id.0) j)) in
    omega (arith, n)
