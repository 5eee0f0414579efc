use Rattle.std.proofs.Common.{◌≡◌, length}
use Rattle.std.specs.Prelude.{All, map}
use Rattle.std.specs.Vec.Iter.{into_iter_items, into_iter_len}
use Rattle.cf_model.specs.Formats.{with_rows}
use Rattle.cf_table.specs.Spelling.{HasRoom, row_value}
use Rattle.cf_volume_image.proofs.payload_reads.add_rows.Given as goal

-- with those of the rest all are there
abbrev pub invariant-loop-row : goal.invariant-loop-row
invariant-loop-row l = record {
  added : with_rows (map row_value (into_iter_items l.row-iterator)) (map row_value l.rows) ≡ with_rows (map row_value l.fn.more.items) (map row_value l.fn.rows);
  room : All HasRoom (into_iter_items l.row-iterator);
  count : into_iter_len l.row-iterator ≡ length (into_iter_items l.row-iterator);
}
