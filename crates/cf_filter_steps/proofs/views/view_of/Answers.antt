use Rattle.std.proofs.Common.{ap, ◌∙◌, ℕ}
use Rattle.std.specs.Prelude.{min}
use Rattle.cf_filter_steps.proofs.Sighted.{sees}
use Rattle.cf_filter_steps.proofs.views.view_of.Goals as goal

pub returns-clause-shows : goal.returns-clause-shows
returns-clause-shows c = λ i means small. sees c.args.row.now i c.args.policy c.min.result c.min-2.result c.needs_all.result means small c.min.ensures (c.min-2.ensures ∙ ap (λ (n : ℕ). min n 16777216) c.base_of.ensures) c.needs_all.ensures
