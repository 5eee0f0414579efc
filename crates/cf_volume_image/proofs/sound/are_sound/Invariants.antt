use Rattle.std.proofs.Common.{◌≡◌, drop}
use Rattle.std.specs.Prelude.{map}
use Rattle.cf_model.specs.Formats.{Header}
use Rattle.cf_model.specs.Standing.{AreSound}
use Rattle.cf_table.specs.Spelling.{row_value}
use Rattle.cf_volume_image.proofs.sound.are_sound.Given as goal

abbrev pub invariant-loop-row : goal.invariant-loop-row
invariant-loop-row l = record {
  to : (h : Header) → h.next ≡ l.next → h.last ≡ l.last → AreSound h (map row_value (drop l.row-index l.rows)) → AreSound h (map row_value l.rows);
  from : (h : Header) → AreSound h (map row_value l.rows) → AreSound h (map row_value (drop l.row-index l.rows));
}
