use Rattle.std.proofs.Common.{length, map}
use Rattle.std.specs.Prelude.{All}
use Rattle.cf_engine.specs.Openings.{RecordFits}
use Rattle.cf_table.specs.Spelling.{row_value}
use Rattle.cf_engine.proofs.openings.records_fit.Given as goal

-- all fit exactly where those do that are left
abbrev pub invariant-loop-one : goal.invariant-loop-one
invariant-loop-one l = record {
  all : All (RecordFits l.rows.next (map row_value l.rows.rows)) l.items → All (RecordFits l.rows.next (map row_value l.rows.rows)) l.records;
  left : All (RecordFits l.rows.next (map row_value l.rows.rows)) l.records → All (RecordFits l.rows.next (map row_value l.rows.rows)) l.items;
}

abbrev pub decreases-loop-one : goal.decreases-loop-one
decreases-loop-one l = length l.items
