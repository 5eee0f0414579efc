use Rattle.std.proofs.Common.{sym, ◌∙◌}
use Rattle.cf_check_report.proofs.Counting.{number_great}
use Rattle.cf_check_report.proofs.counts.number_in.Goals as goal

pub returns-in-None : goal.returns-in-None
returns-in-None c = number_great c.args.text.now c.loop-byte.byte-index c.loop-byte.number c.loop-byte-test.true (sym c.is_ascii_digit.ensures.value ∙ c.if-not-is_ascii_digit.false) c.loop-byte.invariant c.in-None.ensures
