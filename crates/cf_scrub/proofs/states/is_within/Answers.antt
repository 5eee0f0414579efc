use Rattle.std.proofs.Common.{List, ap, arith, length}
use Rattle.std.specs.Prelude.{map}
use Rattle.cf_scrub.proofs.Pushed.{within_is}
use Rattle.cf_table.specs.Spelling.{row_value}
use Rattle.cf_table.specs.declared.rows.Row.{Row}
use Rattle.cf_volume_image.specs.Contents.{image_of}
use Rattle.cf_volume_image.specs.Sound.{most_image_in}
use Rattle.cf_volume_image.specs.Spelled.{spell_image_in}
use Rattle.cf_volume_image.proofs.Formats.{small_decides}
use Rattle.cf_volume_image.proofs.WholeSound.{same_length}
use Rattle.cf_scrub.proofs.states.is_within.Goals as goal

pub returns : goal.returns
returns c =
    within_is (length c.args.contents.now.rows.rows) (length (map row_value c.args.contents.now.rows.rows)) (length (spell_image_in c.args.format (image_of c.args.contents.now))) (most_image_in c.args.format) _
    (small_decides c.args.format c.args.contents.now c.image_len.result (length c.as_slice-rows.result.now) c.most_bytes.result c.image_len.ensures
    (ap (λ (l : List Row). length l) c.as_slice-rows.ensures.value) (omega (arith, c.if-rows-gt-MOST_ITEMS.false)) c.most_bytes.ensures)
    (same_length c.args.contents.now.rows.rows)
