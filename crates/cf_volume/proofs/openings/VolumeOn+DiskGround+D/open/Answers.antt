use Rattle.std.proofs.Common.{◌+◌, sym, subst}
use Rattle.cf_disk.specs.Disk.{Leaves}
use Rattle.cf_volume_commit.specs.Loaded.{StandsOrWas}
use Rattle.cf_volume_points.specs.At.{At}
use Rattle.cf_volume_points.specs.Standing.{clusters_for, opened}
use Rattle.cf_volume_changes.specs.Steady.{known_of}
use Rattle.cf_volume.proofs.openings.VolumeOn+DiskGround+D.open.Goals as goal

pub returns-in-Ok-clause-ok : goal.returns-in-Ok-clause-ok
returns-in-Ok-clause-ok g c = λ epoch log b st.
    subst (λ (d : _). At (g.D.Disk.state d) (known_of c.in-Ok.parts) (opened (epoch + 1) log b (clusters_for (g.D.Disk.state c.args.disk)))) (sym c.new.ensures) (c.in-Ok.ensures.ok epoch log b st)

pub returns-in-Ok-clause-crash : goal.returns-in-Ok-clause-crash
returns-in-Ok-clause-crash g c = λ epoch log b st.
    subst (λ (d : _). Leaves (g.D.Disk.state c.args.disk) (g.D.Disk.state d) (StandsOrWas epoch log b (g.D.Disk.state c.args.disk))) (sym c.new.ensures) (c.in-Ok.ensures.crash epoch log b st)
