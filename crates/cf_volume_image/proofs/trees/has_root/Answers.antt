use Rattle.std.proofs.Common.{◌∙◌}
use Rattle.cf_model.specs.Numbers.{root_id}
use Rattle.cf_volume_image.specs.Trees.{is_root}
use Rattle.cf_volume_image.proofs.RowLookups.{none_says, some_says}
use Rattle.cf_volume_image.proofs.trees.has_root.Goals as goal

pub returns-in-None : goal.returns-in-None
returns-in-None c = none_says c.args.rows.now.rows root_id is_root c.in-None.ensures

pub returns-in-Some : goal.returns-in-Some
returns-in-Some c = c.is_root.ensures ∙ some_says c.args.rows.now.rows root_id is_root c.in-Some.row.now c.in-Some.ensures
