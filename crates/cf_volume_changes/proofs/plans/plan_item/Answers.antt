use Rattle.cf_volume_changes.proofs.Planning.{fits_end}
use Rattle.cf_volume_changes.proofs.plans.plan_item.Goals as goal

pub blocks_put-requires : goal.blocks_put-requires
blocks_put-requires c = fits_end c.args.change.now c.args.row.now c.requires.fits
