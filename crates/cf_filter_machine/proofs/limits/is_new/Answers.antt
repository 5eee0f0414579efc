use Rattle.std.proofs.Common.{◌∙◌, ◌-◌, arith}
use Rattle.cf_filter_machine.proofs.WithinLimits.{all_before, none_of}
use Rattle.cf_filter_machine.proofs.limits.is_new.Goals as goal

pub returns-clause-new : goal.returns-clause-new
returns-clause-new c = λ hit. (
  c.if-item-ge18446744073709551615.false,
  all_before (record { 0 = c.args.item.0 - 1 }) c.args.item c.args.rows.now.rows (omega (arith, c.if-item-lt1.false)) (none_of c.after.result c.is_none.result c.is_none.ensures hit ∙ c.after.ensures),
)
