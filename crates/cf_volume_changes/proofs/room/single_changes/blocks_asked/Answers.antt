use Rattle.std.proofs.Common.{arith}
use Rattle.cf_volume_changes.proofs.Judged.{row_puts}
use Rattle.cf_volume_changes.proofs.Planning.{fits_end, fits_stays}
use Rattle.cf_volume_changes.specs.Now.{resting}
use Rattle.cf_volume_changes.specs.Steady.{known_of}
use Rattle.cf_volume_changes.proofs.room.single_changes.blocks_asked.Goals as goal

pub blocks_put-requires : goal.blocks_put-requires
blocks_put-requires c = fits_end c.args.change.now c.args.row.now c.requires.fits

pub returns : goal.returns
returns c = λ seen v at.
    let puts = row_puts (resting seen) (known_of c.args.parts.now) v c.args.change.now c.args.row.now c.in_ok-blocks.blocks.items at (fits_stays c.args.change.now c.args.row.now c.requires.fits) c.requires.found c.in_ok-blocks.ensures in
    omega (arith, puts, c.len-count.ensures, c.in_ok-blocks.blocks.ok)
