use Rattle.std.proofs.Common.{◌≡◌, drop}
use Rattle.std.specs.Prelude.{map}
use Rattle.std.specs.List.{list_all}
use Rattle.cf_scrub.specs.Blocks.{blocks_of}
use Rattle.cf_table.specs.Spelling.{extent_of}
use Rattle.cf_volume_image.specs.Sound.{has_block}
use Rattle.cf_scrub.proofs.blocks.have_blocks.Given as goal

abbrev pub invariant-loop-run : goal.invariant-loop-run
invariant-loop-run l = list_all (λ s. list_all (has_block (map extent_of l.extents)) (blocks_of s)) (drop l.run-index l.runs) ≡ list_all (λ s. list_all (has_block (map extent_of l.extents)) (blocks_of s)) l.runs
