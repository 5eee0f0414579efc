use Rattle.cf_filter.proofs.openings.FilterOn+DiskGround+D.format.Goals as goal

pub returns-in-Ok-clause-ok : goal.returns-in-Ok-clause-ok
returns-in-Ok-clause-ok g c = c.on_volume.ensures.new _ c.in-Ok.ensures.usable c.in-Ok.ensures.ok
