use Rattle.cf_world_devices.proofs.Migrated.{refused_image}
use Rattle.cf_world_devices.proofs.migrations.rewritten.Goals as goal

pub returns-in-Ok-clause-image : goal.returns-in-Ok-clause-image
returns-in-Ok-clause-image g c = refused_image c.open.result (g.D.Disk.state c.place.new.disk) (g.D.Disk.state c.open.new.disk) c.args.bytes.now c.open.ensures.cause c.in-Ok.ensures.placed
