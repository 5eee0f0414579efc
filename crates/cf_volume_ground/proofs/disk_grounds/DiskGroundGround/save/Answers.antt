use Rattle.cf_volume_ground.proofs.DiskSaves.{crash_on, saved_on}
use Rattle.cf_volume_ground.proofs.disk_grounds.DiskGroundGround.save.Goals as goal

pub returns-clause-saved : goal.returns-clause-saved
returns-clause-saved g c =
    saved_on g.D.Disk.state c.self.view_is (g.met.D.Disk.reads_one c.self.inside.disk) (g.D.Disk.state c.save.new.disk) c.save.result c.args.journal.now c.save.new.journal c.args.then.now c.args.contents.now c.save.ensures.saved

pub returns-clause-crash : goal.returns-clause-crash
returns-clause-crash g c =
    crash_on g.D.Disk.state c.self.view_is (g.met.D.Disk.reads_one c.self.inside.disk) (g.D.Disk.state c.save.new.disk) c.save.result c.args.journal.now c.save.new.journal c.args.then.now c.args.contents.now c.save.ensures.crash
