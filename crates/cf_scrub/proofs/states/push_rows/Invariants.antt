use Rattle.std.proofs.Common.{◌≡◌, ◌++◌, ℕ, List, [], drop}
use Rattle.std.specs.Prelude.{map}
use Rattle.cf_scrub.specs.Blocks.{AreMarks}
use Rattle.cf_scrub.specs.States.{rows_damages}
use Rattle.cf_table.specs.Spelling.{row_value}
use Rattle.cf_volume_image.specs.Contents.{image_of}
use Rattle.cf_scrub.proofs.states.push_rows.Given as goal

abbrev pub invariant-loop-row : goal.invariant-loop-row
invariant-loop-row l = (now : List ℕ) × AreMarks l.clusters now l.marks.items
    × (l.out.items ++ rows_damages (image_of l.contents) l.clusters now (map row_value (drop l.row-index l.rows)) ≡ l.fn.out.items ++ rows_damages (image_of l.contents) l.clusters [] (map row_value l.rows))
