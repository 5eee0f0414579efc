use Rattle.cf_model.specs.Numbers.{no_item}
use Rattle.cf_volume_image.proofs.RowLookups.{lacks_row}
use Rattle.cf_volume_image.proofs.trees.lacks_top.Goals as goal

pub returns : goal.returns
returns c = lacks_row c.get.result c.args.rows.now.rows no_item c.is_none.result c.is_none.ensures c.get.ensures
