use Rattle.std.proofs.Common.{◌≡◌, drop}
use Rattle.std.specs.Prelude.{map}
use Rattle.cf_table.specs.Spelling.{row_value}
use Rattle.cf_volume_image.specs.States.{without_rows}
use Rattle.cf_volume_image.proofs.payload_reads.remove_rows.Given as goal

abbrev pub invariant-loop-id : goal.invariant-loop-id
invariant-loop-id l = without_rows (drop l.id-index l.ids) (map row_value l.rows) ≡ without_rows l.ids (map row_value l.fn.rows)
