use Rattle.std.proofs.Common.{◌≡◌, ◌++◌, drop}
use Rattle.cf_filter_machine.specs.Telling.{anchors_in}
use Rattle.cf_filter_events.proofs.books.anchors_in.Given as goal

abbrev pub invariant-loop-row : goal.invariant-loop-row
invariant-loop-row l = l.anchors ++ anchors_in (drop l.row-index l.rows) ≡ anchors_in l.rows
