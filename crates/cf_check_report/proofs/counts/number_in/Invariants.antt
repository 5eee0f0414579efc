use Rattle.std.proofs.Common.{◌≡◌, drop}
use Rattle.cf_check_report.specs.Counts.{number_from}
use Rattle.cf_check_report.proofs.counts.number_in.Given as goal

abbrev pub invariant-loop-byte : goal.invariant-loop-byte
invariant-loop-byte l = number_from 0 l.text ≡ number_from l.number (drop l.byte-index l.text)
