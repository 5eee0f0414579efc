use Rattle.std.proofs.Common.{◌+◌, length, sym, arith}
use Rattle.std.specs.Prelude.{min}
use Rattle.std.proofs.lemmas.Bool.{le-ltb}
use Rattle.cf_base.specs.declared.limits.TheConstants.{MOST_IMAGE_BYTES}
use Rattle.cf_volume_image.specs.Contents.{image_of}
use Rattle.cf_model.specs.Formats.{spell_image}
use Rattle.cf_volume_points.specs.Lengths.{len_with}
use Rattle.cf_ranges.specs.Positions.{touched}
use Rattle.cf_volume_changes.proofs.room.lengths.is_too_long_with.Goals as goal

pub returns-then-most-le-MOST_IMAGE : goal.returns-then-most-le-MOST_IMAGE
returns-then-most-le-MOST_IMAGE c = λ n m old new.
    let most = c.most_len.ensures.most m in
    sym (le-ltb (MOST_IMAGE_BYTES + len_with c.args.old.now (touched c.args.old.now.here 0 n)) (min (length (spell_image (image_of c.args.contents.now))) 18446744073709551615 + len_with c.args.new.now (touched c.args.new.now.here 0 m))
    (omega (arith, most, c.image_len.ensures, c.if-most-le-MOST_IMAGE.true)))
