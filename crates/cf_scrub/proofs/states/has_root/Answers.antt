use Rattle.std.proofs.Common.{ap, sym}
use Rattle.std.specs.Prelude.{is_some}
use Rattle.cf_model.specs.Numbers.{root_id}
use Rattle.cf_volume_image.proofs.RowLookups.{at_none, at_some}
use Rattle.cf_scrub.proofs.states.has_root.Goals as goal

pub returns-in-Some : goal.returns-in-Some
returns-in-Some c = sym (ap is_some (at_some c.args.rows.now.rows root_id _ c.in-Some.ensures))

pub returns-in-None : goal.returns-in-None
returns-in-None c = sym (ap is_some (at_none c.args.rows.now.rows root_id c.in-None.ensures))
