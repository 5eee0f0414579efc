use Rattle.std.proofs.Common.{◌∙◌}
use Rattle.std.specs.Str.{bytes_eq}
use Rattle.cf_table.proofs.Finds.{same_bytes}
use Rattle.cf_item_rules.proofs.placeholder_plans.has_identity.Goals as goal

pub returns : goal.returns
returns c = c.eq.ensures ∙ (λ k. bytes_eq (c.as_slice.ensures k) (c.as_slice-2.ensures k)) ∙ same_bytes c.args.row.now.identity c.args.identity.now
