use Rattle.std.proofs.Common.{◌∙◌, ◌++◌, ap, arith, length}
use Rattle.std.specs.Prelude.{◌≡◌}
use Rattle.cf_table.proofs.Fields.{four_bytes}
use Rattle.cf_filter_machine.proofs.tombstones.grave_key.Goals as goal

pub returns-clause-key : goal.returns-clause-key
returns-clause-key c =
    c.from_vec.ensures ∙ c.in_ok-extend_from_slice-2.ensures.items
    ∙ (λ j. (c.in_ok-extend_from_slice.ensures.items ∙ (λ k. c.in_ok-key.ensures.items k ++ (c.to_be_bytes.ensures ∙ four_bytes c.args.number.epoch) k)) j ++ (c.to_be_bytes-2.ensures ∙ four_bytes c.args.number.place) j)

pub returns-clause-short : goal.returns-clause-short
returns-clause-short c =
    let n : length c.from_vec.result ≡ 9 =
    ap length (c.from_vec.ensures ∙ c.in_ok-extend_from_slice-2.ensures.items
    ∙ (λ j. (c.in_ok-extend_from_slice.ensures.items ∙ (λ k. c.in_ok-key.ensures.items k ++ (c.to_be_bytes.ensures ∙ four_bytes c.args.number.epoch) k)) j ++ (c.to_be_bytes-2.ensures ∙ four_bytes c.args.number.place) j)) in
    omega (arith, n)
