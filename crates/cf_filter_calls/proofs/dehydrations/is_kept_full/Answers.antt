use Rattle.cf_filter_calls.proofs.Dehydrated.{kept_off, kept_on}
use Rattle.cf_filter_calls.proofs.dehydrations.is_kept_full.Goals as goal

pub returns-then-is_always_full : goal.returns-then-is_always_full
returns-then-is_always_full c = λ i m. kept_on c.args.policy.now c.is_always_full.result i c.is_always_full.ensures c.if-is_always_full.true

pub returns-else-is_always_full : goal.returns-else-is_always_full
returns-else-is_always_full c = λ i m. kept_off c.args.policy.now c.is_always_full.result c.args.row.now.keep i c.is_always_full.ensures c.if-is_always_full.false m.keep
