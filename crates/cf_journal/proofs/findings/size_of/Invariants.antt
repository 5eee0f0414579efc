use Rattle.std.proofs.Common.{◌≡◌, ◌+◌, drop}
use Rattle.cf_journal.specs.Format.{size_of_records}
use Rattle.cf_journal.proofs.findings.size_of.Given as goal

abbrev pub invariant-loop-payload : goal.invariant-loop-payload
invariant-loop-payload l = l.size + size_of_records (drop l.payload-index l.payloads) ≡ size_of_records l.fn.payloads
