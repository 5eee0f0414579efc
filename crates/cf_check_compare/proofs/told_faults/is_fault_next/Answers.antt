use Rattle.std.proofs.Common.{◌∙◌}
use Rattle.cf_check_compare.proofs.ToldLines.{fault_is_next}
use Rattle.cf_check_compare.proofs.told_faults.is_fault_next.Goals as goal

pub returns : goal.returns
returns c = c.begins.ensures ∙ fault_is_next c.args.rest.now
