use Rattle.std.proofs.Common.{◌∙◌, ◌&&◌}
use Rattle.cf_volume_image.proofs.RowLookups.{none_says, some_says}
use Rattle.cf_volume_image.proofs.trees.takes_children.Goals as goal

pub returns-in-None : goal.returns-in-None
returns-in-None c = none_says c.args.rows.now.rows c.args.id (λ r. r.directory && r.populated) c.in-None.ensures

pub returns-in-Some : goal.returns-in-Some
returns-in-Some c = c.is_open.ensures ∙ some_says c.args.rows.now.rows c.args.id (λ r. r.directory && r.populated) c.in-Some.row.now c.in-Some.ensures
