use Rattle.std.proofs.Common.{◌≡◌, ◌-◌}
use Rattle.std.specs.Prelude.{map}
use Rattle.std.specs.List.{list_all}
use Rattle.cf_model.specs.Words.{counting}
use Rattle.cf_table.specs.Spelling.{extent_of}
use Rattle.cf_volume_image.specs.Sound.{has_block}
use Rattle.cf_scrub.proofs.blocks.has_blocks.Given as goal

abbrev pub invariant-loop-block : goal.invariant-loop-block
invariant-loop-block l = list_all (has_block (map extent_of l.extents)) (counting l.block (l.to - l.block)) ≡ list_all (has_block (map extent_of l.extents)) (counting l.from (l.to - l.from))
