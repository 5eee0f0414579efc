use Rattle.std.proofs.Common.{ap, ◌∙◌}
use Rattle.cf_base.specs.declared.answers.Shown.TheVariants as shown
use Rattle.cf_filter_calls.proofs.Shown.{runs_are}
use Rattle.cf_filter_calls.proofs.item_facts.show_runs.Goals as goal

pub returns : goal.returns
returns c = λ flags le same. ap shown.Ranges (c.from_vec.ensures ∙ c.in_ok-runs.ensures.items ∙ c.runs.ensures.value ∙ runs_are c.args.set.now flags c.runs.ensures.maximal le same)
