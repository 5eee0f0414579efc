use Rattle.std.proofs.Common.{◌≡◌, ◌++◌, length}
use Rattle.cf_report.specs.Words.{hex_digits}
use Rattle.cf_report.proofs.words.push_digits.Given as goal

abbrev pub invariant-loop-rest : goal.invariant-loop-rest
invariant-loop-rest l = l.out.items ++ hex_digits l.rest ≡ l.fn.out.items ++ hex_digits l.bytes

abbrev pub decreases-loop-rest : goal.decreases-loop-rest
decreases-loop-rest l = length l.rest
