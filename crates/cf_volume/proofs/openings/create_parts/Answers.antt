use Rattle.cf_volume.proofs.OpenedFrom.{steady_opened}
use Rattle.cf_volume.proofs.openings.create_parts.Goals as goal

pub returns-in-Ok-clause-steady : goal.returns-in-Ok-clause-steady
returns-in-Ok-clause-steady g c = steady_opened _ _ c.in-Ok.made _ c.create.ensures.same_size c.parts_of.ensures.known c.in-Ok.ensures.sound c.in-Ok.ensures.later c.in-Ok.ensures.usable
