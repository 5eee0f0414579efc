use Rattle.std.proofs.Common.{◌∙◌, ap, sym}
use Rattle.cf_scrub.specs.Ways.{above_in}
use Rattle.cf_volume_image.proofs.RowLookups.{at_none, at_some}
use Rattle.cf_scrub.proofs.ways.above.Goals as goal

pub returns-in-None : goal.returns-in-None
returns-in-None c = sym (ap above_in (at_none c.args.rows.now.rows c.args.id c.in-None.ensures))

pub returns-in-Some : goal.returns-in-Some
returns-in-Some c = c.parent_of.ensures ∙ sym (ap above_in (at_some c.args.rows.now.rows c.args.id c.in-Some.row.now c.in-Some.ensures))
