use Rattle.std.proofs.Common.{drop}
use Rattle.std.specs.Prelude.{map}
use Rattle.cf_table.specs.Spelling.{row_value}
use Rattle.cf_volume_image.specs.Sets.{AllBelow}
use Rattle.cf_volume_image.specs.Sound.{AllHoldBytes}
use Rattle.cf_volume_image.proofs.sound.hold_bytes.Given as goal

abbrev pub invariant-loop-row : goal.invariant-loop-row
invariant-loop-row l = record {
  to : AllHoldBytes (map row_value (drop l.row-index l.rows)) → AllHoldBytes (map row_value l.rows);
  from : AllHoldBytes (map row_value l.rows) → AllHoldBytes (map row_value (drop l.row-index l.rows));
  below : AllBelow (drop l.row-index l.rows);
}
