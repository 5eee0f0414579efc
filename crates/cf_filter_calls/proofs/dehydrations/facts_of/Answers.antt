use Rattle.std.proofs.Common.{ap, ◌∙◌}
use Rattle.cf_model.specs.Verdicts.{is_pinned}
use Rattle.cf_filter_calls.proofs.dehydrations.facts_of.Goals as goal

pub returns-clause-tells : goal.returns-clause-tells
returns-clause-tells c = λ i m. record { size = m.bytes.size; placeholder = m.placeholder; always_full = c.is_kept_full.ensures i m; pinned = c.is_pinned.ensures ∙ ap is_pinned m.pin; in_sync = m.in_sync }
