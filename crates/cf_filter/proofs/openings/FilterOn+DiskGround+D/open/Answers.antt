use Rattle.std.proofs.Common.{◌+◌, subst, sym}
use Rattle.cf_volume_commit.specs.Loaded.{StandsOrWas}
use Rattle.cf_disk.specs.Disk.{Leaves}
use Rattle.cf_filter_machine.specs.Held.{Held}
use Rattle.cf_filter.proofs.openings.FilterOn+DiskGround+D.open.Goals as goal

pub returns-in-Ok-clause-ok : goal.returns-in-Ok-clause-ok
returns-in-Ok-clause-ok g c = λ epoch log b stands kept. c.on_volume.ensures.opened (epoch + 1) log b _ c.in-Ok.ensures.usable (c.in-Ok.ensures.ok epoch log b stands) kept

pub returns-in-Ok-clause-crash : goal.returns-in-Ok-clause-crash
returns-in-Ok-clause-crash g c = λ epoch log b stands.
    subst (λ (f : Held g.row.D.Denot). Leaves (g.D.Disk.state c.args.disk) (g.D.Disk.state f.disk) (StandsOrWas epoch log b (g.D.Disk.state c.args.disk))) (sym c.on_volume.ensures.is) (c.in-Ok.ensures.crash epoch log b stands)
