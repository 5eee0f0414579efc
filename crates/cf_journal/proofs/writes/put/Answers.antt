use Rattle.std.proofs.Common.{length}
use Rattle.cf_disk.specs.Disk.{Near}
use Rattle.cf_disk.specs.Leaving.{leaves_on, leaves_write}
use Rattle.cf_journal.proofs.writes.put.Goals as goal

pub returns-in_err-write-clause-crash : goal.returns-in_err-write-clause-crash
returns-in_err-write-clause-crash g c = leaves_write (g.D.Disk.state c.args.disk.now) (g.D.Disk.state c.write.new.self) c.args.at (length c.args.bytes.now) c.write.ensures.crash c.write.ensures.goes

pub returns-in_err-sync-clause-crash : goal.returns-in_err-sync-clause-crash
returns-in_err-sync-clause-crash g c =
    leaves_on (g.D.Disk.state c.args.disk.now) (g.D.Disk.state c.write.new.self) (g.D.Disk.state c.sync.new.self) (Near (g.D.Disk.state c.args.disk.now) c.args.at (length c.args.bytes.now))
    (leaves_write (g.D.Disk.state c.args.disk.now) (g.D.Disk.state c.write.new.self) c.args.at (length c.args.bytes.now) c.write.ensures.crash c.write.ensures.goes) c.sync.ensures.keeps c.sync.ensures.goes

pub returns-clause-crash : goal.returns-clause-crash
returns-clause-crash g c =
    leaves_on (g.D.Disk.state c.args.disk.now) (g.D.Disk.state c.write.new.self) (g.D.Disk.state c.sync.new.self) (Near (g.D.Disk.state c.args.disk.now) c.args.at (length c.args.bytes.now))
    (leaves_write (g.D.Disk.state c.args.disk.now) (g.D.Disk.state c.write.new.self) c.args.at (length c.args.bytes.now) c.write.ensures.crash c.write.ensures.goes) c.sync.ensures.keeps c.sync.ensures.goes
