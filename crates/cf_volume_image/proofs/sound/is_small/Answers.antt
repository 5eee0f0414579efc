use Rattle.std.proofs.Common.{List, ap, arith, length}
use Rattle.cf_table.specs.declared.rows.Row.{Row}
use Rattle.cf_volume_image.proofs.Formats.{small_decides}
use Rattle.cf_volume_image.proofs.sound.is_small.Goals as goal

pub returns : goal.returns
returns c =
    small_decides c.args.format c.args.contents.now c.image_len.result (length c.as_slice-rows.result.now) c.most_bytes.result c.image_len.ensures
    (ap (λ (l : List Row). length l) c.as_slice-rows.ensures.value) (omega (arith, c.if-rows-gt-MOST_ROWS.false)) c.most_bytes.ensures
