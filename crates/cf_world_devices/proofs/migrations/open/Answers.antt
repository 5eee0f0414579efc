use Rattle.std.proofs.Common.{ap}
use Rattle.std.specs.Prelude.{Err}
use Rattle.cf_world_devices.proofs.Migrated.{migrated, unopened_cause}
use Rattle.cf_world_devices.proofs.migrations.open.Goals as goal

pub returns-in-Ok-clause-opened : goal.returns-in-Ok-clause-opened
returns-in-Ok-clause-opened g c =
    migrated (g.D.Disk.state c.args.disk.now) (g.D.Disk.state c.load.new.disk) c.in-Ok.parts (record { same_size = g.met.D.Disk.same_size c.load.new.disk }) (g.met.D.Disk.reads_one c.load.new.disk)
    c.in-Ok.ensures.found c.in-Ok.ensures.holds c.in-Ok.ensures.rest c.in-Ok.ensures.ok

pub returns-in-Err-clause-cause : goal.returns-in-Err-clause-cause
returns-in-Err-clause-cause g c =
    unopened_cause c.unopened.result c.in-Err.fail (g.D.Disk.state c.args.disk.now) (g.D.Disk.state c.load.new.disk) c.unopened.ensures.image c.unopened.ensures.device c.unopened.ensures.only
    (λ e. c.in-Err.ensures.absent (ap Err e)) (λ e. c.in-Err.ensures.exhausted (ap Err e)) (λ e. c.in-Err.ensures.cause (ap Err e)) c.in-Err.ensures.only
