use Rattle.std.proofs.Common.{ap, sym}
use Rattle.cf_volume_image.specs.Trees.{parent_in}
use Rattle.cf_volume_image.proofs.RowLookups.{at_none, at_some}
use Rattle.cf_volume_image.proofs.trees.parent_of.Goals as goal

pub returns-in-None : goal.returns-in-None
returns-in-None c = sym (ap parent_in (at_none c.args.rows.now.rows c.args.id c.in-None.ensures))

pub returns-in-Some : goal.returns-in-Some
returns-in-Some c = sym (ap parent_in (at_some c.args.rows.now.rows c.args.id c.in-Some.row.now c.in-Some.ensures))
