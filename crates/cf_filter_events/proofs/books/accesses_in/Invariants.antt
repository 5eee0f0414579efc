use Rattle.std.proofs.Common.{◌≡◌, ◌++◌, drop}
use Rattle.cf_filter_machine.specs.Telling.{accesses_in}
use Rattle.cf_filter_events.proofs.books.accesses_in.Given as goal

abbrev pub invariant-loop-row : goal.invariant-loop-row
invariant-loop-row l = l.accesses ++ accesses_in (drop l.row-index l.rows) ≡ accesses_in l.rows
