use Rattle.std.proofs.Common.{◌≡◌, ◌≤◌, ◌+◌, ◌++◌, drop, length}
use Rattle.std.specs.Prelude.{map}
use Rattle.std.specs.List.{flat_map}
use Rattle.cf_model.specs.Rows.{spell_row}
use Rattle.cf_table.specs.Spelling.{row_value}
use Rattle.cf_volume_image.specs.Contents.{rows_at}
use Rattle.cf_volume_image.proofs.payloads.put_each_row.Given as goal

abbrev pub invariant-loop-id : goal.invariant-loop-id
invariant-loop-id l = record {
  spelled : l.out ++ flat_map spell_row (rows_at (map row_value l.rows.rows) (drop l.id-index l.ids)) ≡ l.fn.out ++ flat_map spell_row (rows_at (map row_value l.rows.rows) l.ids);
  count : l.count + length (rows_at (map row_value l.rows.rows) (drop l.id-index l.ids)) ≡ length (rows_at (map row_value l.rows.rows) l.ids);
  small : l.count ≤ l.id-index;
}
