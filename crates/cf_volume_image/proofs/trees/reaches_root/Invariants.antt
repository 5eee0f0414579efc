use Rattle.std.proofs.Common.{◌≡◌, ◌-◌}
use Rattle.std.specs.Prelude.{map}
use Rattle.cf_table.specs.Spelling.{row_value}
use Rattle.cf_volume_image.specs.Sound.{reaches_root}
use Rattle.cf_volume_image.proofs.trees.reaches_root.Given as goal

abbrev pub invariant-loop : goal.invariant-loop
invariant-loop l = reaches_root (map row_value l.rows.rows) (32 - l.counter) l.at ≡ reaches_root (map row_value l.rows.rows) 32 l.fn.id
