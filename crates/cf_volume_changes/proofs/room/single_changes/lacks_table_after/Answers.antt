use Rattle.std.proofs.Common.{length}
use Rattle.cf_model.specs.Formats.{spell_image}
use Rattle.cf_model.specs.Numbers.{usn_after}
use Rattle.cf_table.specs.Changing.{item_of_change}
use Rattle.cf_table.specs.Means.{IsLater}
use Rattle.cf_volume_changes.proofs.Judged.{short_table}
use Rattle.cf_volume_changes.proofs.Planning.{fits_stays}
use Rattle.cf_volume_changes.proofs.Puts.{found_of}
use Rattle.cf_volume_changes.specs.Now.{resting}
use Rattle.cf_volume_changes.specs.Steady.{known_of}
use Rattle.cf_volume_image.specs.Contents.{image_of}
use Rattle.cf_volume_points.proofs.Commits.{image_len_is}
use Rattle.cf_volume_changes.proofs.room.single_changes.lacks_table_after.Goals as goal

pub returns-then-surely_fits : goal.returns-then-surely_fits
returns-then-surely_fits c = λ seen v at puts.
    let room = c.surely_fits.ensures c.if-surely_fits.true in
    short_table (resting seen) (known_of c.args.parts.now) v c.args.change.now c.args.row.now at c.image_len.ensures.rises c.image_len.ensures.kept (fits_stays c.args.change.now c.args.row.now c.requires.fits) c.requires.found
    (found_of (λ x. IsLater (usn_after c.args.parts.now.contents.last.epoch c.args.parts.now.contents.last.place) x) c.args.parts.now.contents.rows.rows (item_of_change c.args.change.now) c.args.row.now c.requires.later c.requires.found)
    c.args.blocks room.0 (length (spell_image (image_of c.args.parts.now.contents))) puts room.1 (image_len_is (known_of c.args.parts.now)) room.2
