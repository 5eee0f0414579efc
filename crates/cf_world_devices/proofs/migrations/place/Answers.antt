use Rattle.std.proofs.Common.{◌∙◌}
use Rattle.cf_world_devices.proofs.Migrated.{all_placed}
use Rattle.cf_world_devices.proofs.migrations.place.Goals as goal

pub returns-clause-placed : goal.returns-clause-placed
returns-clause-placed g c = c.sync.ensures.keeps.seen ∙ all_placed c.args.bytes.now (g.D.Disk.state c.args.disk.now).seen (g.D.Disk.state c.write.new.self).seen c.requires c.in_ok-write.ensures.written
