use Rattle.std.proofs.Common.{◌∙◌}
use Rattle.std.specs.Str.{bytes_eq}
use Rattle.cf_table.proofs.Finds.{same_bytes}
use Rattle.cf_filter_calls.proofs.moves.has_name.Goals as goal

pub returns : goal.returns
returns c = c.eq.ensures ∙ (λ k. bytes_eq (c.as_slice.ensures k) (c.as_slice-2.ensures k)) ∙ same_bytes c.args.row.now.name c.args.name.now
