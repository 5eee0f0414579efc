use Rattle.std.proofs.Common.{◌∙◌, ◌++◌, ap}
use Rattle.cf_model.specs.Words.{in_bytes}
use Rattle.cf_table.proofs.Fields.{eight_bytes}
use Rattle.cf_filter_machine.proofs.tombstones.grave_value.Goals as goal

pub returns-clause-value : goal.returns-clause-value
returns-clause-value c =
    c.from_vec.ensures ∙ c.in_ok-extend_from_slice.ensures.items
    ∙ (λ j. (c.in_ok-value.ensures.items ∙ c.to_be_bytes.ensures ∙ eight_bytes c.args.numbers.target) j ++ (c.to_be_bytes-2.ensures ∙ eight_bytes c.version_of-version.result ∙ ap (in_bytes 8) c.version_of-version.ensures.is) j)
