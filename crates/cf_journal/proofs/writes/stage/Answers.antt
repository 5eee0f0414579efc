use Rattle.std.proofs.Common.{length, arith, ◌+◌}
use Rattle.cf_disk.specs.Disk.{Near}
use Rattle.cf_disk.specs.Leaving.{leaves_on, leaves_weaker, leaves_write, near_on, near_wider}
use Rattle.cf_journal.proofs.Staging.{third, stages}
use Rattle.cf_journal.proofs.writes.stage.Goals as goal

pub returns-in_err-write-clause-crash : goal.returns-in_err-write-clause-crash
returns-in_err-write-clause-crash g c =
    leaves_weaker (g.D.Disk.state c.args.disk.now) (g.D.Disk.state c.write.new.self) (Near (g.D.Disk.state c.args.disk.now) (c.args.at + 1) (length c.args.header.now)) (Near (g.D.Disk.state c.args.disk.now) (c.args.at + 1) 1572863)
    (leaves_write (g.D.Disk.state c.args.disk.now) (g.D.Disk.state c.write.new.self) (c.args.at + 1) (length c.args.header.now) c.write.ensures.crash c.write.ensures.goes)
    (near_wider (g.D.Disk.state c.args.disk.now) (c.args.at + 1) 1572863 (c.args.at + 1) (length c.args.header.now) (omega arith) (omega (arith, c.requires.header)))

pub returns-in_err-write-2-clause-crash : goal.returns-in_err-write-2-clause-crash
returns-in_err-write-2-clause-crash g c =
    near_on (g.D.Disk.state c.args.disk.now) (g.D.Disk.state c.write.new.self) (g.D.Disk.state c.write-2.new.self) (c.args.at + 1) 1572863 (c.args.at + 4096) (length c.args.image.now)
    (leaves_weaker (g.D.Disk.state c.args.disk.now) (g.D.Disk.state c.write.new.self) (Near (g.D.Disk.state c.args.disk.now) (c.args.at + 1) (length c.args.header.now)) (Near (g.D.Disk.state c.args.disk.now) (c.args.at + 1) 1572863)
    (leaves_write (g.D.Disk.state c.args.disk.now) (g.D.Disk.state c.write.new.self) (c.args.at + 1) (length c.args.header.now) c.write.ensures.crash c.write.ensures.goes)
    (near_wider (g.D.Disk.state c.args.disk.now) (c.args.at + 1) 1572863 (c.args.at + 1) (length c.args.header.now) (omega arith) (omega (arith, c.requires.header))))
    c.write-2.ensures.crash c.write-2.ensures.goes (omega arith) (omega (arith, c.requires.short))

pub returns-in_err-write-3-clause-crash : goal.returns-in_err-write-3-clause-crash
returns-in_err-write-3-clause-crash g c = third (g.D.Disk.state c.args.disk.now) (g.D.Disk.state c.write.new.self) (g.D.Disk.state c.write-2.new.self) (g.D.Disk.state c.write-3.new.self) (c.args.at + 1) 1572863 (c.args.at + 1) _ (c.args.at + 4096) _ (c.args.at + 1310720) _ c.write.ensures.crash c.write.ensures.goes c.write-2.ensures.crash c.write-2.ensures.goes c.write-3.ensures.crash c.write-3.ensures.goes (omega arith) (omega (arith, c.requires.header)) (omega arith) (omega (arith, c.requires.header)) (omega arith) (omega (arith, c.requires.header))

pub returns-in_err-sync-clause-crash : goal.returns-in_err-sync-clause-crash
returns-in_err-sync-clause-crash g c =
    leaves_on (g.D.Disk.state c.args.disk.now) (g.D.Disk.state c.write-3.new.self) (g.D.Disk.state c.sync.new.self) (Near (g.D.Disk.state c.args.disk.now) (c.args.at + 1) (1572863))
    (third (g.D.Disk.state c.args.disk.now) (g.D.Disk.state c.write.new.self) (g.D.Disk.state c.write-2.new.self) (g.D.Disk.state c.write-3.new.self) (c.args.at + 1) 1572863 (c.args.at + 1) _ (c.args.at + 4096) _ (c.args.at + 1310720) _ c.write.ensures.crash c.write.ensures.goes c.write-2.ensures.crash c.write-2.ensures.goes c.write-3.ensures.crash c.write-3.ensures.goes (omega arith) (omega (arith, c.requires.header)) (omega arith) (omega (arith, c.requires.header)) (omega arith) (omega (arith, c.requires.header)))
    c.sync.ensures.keeps c.sync.ensures.goes

pub returns-clause-crash : goal.returns-clause-crash
returns-clause-crash g c =
    leaves_on (g.D.Disk.state c.args.disk.now) (g.D.Disk.state c.write-3.new.self) (g.D.Disk.state c.sync.new.self) (Near (g.D.Disk.state c.args.disk.now) (c.args.at + 1) (1572863))
    (third (g.D.Disk.state c.args.disk.now) (g.D.Disk.state c.write.new.self) (g.D.Disk.state c.write-2.new.self) (g.D.Disk.state c.write-3.new.self) (c.args.at + 1) 1572863 (c.args.at + 1) _ (c.args.at + 4096) _ (c.args.at + 1310720) _ c.write.ensures.crash c.write.ensures.goes c.write-2.ensures.crash c.write-2.ensures.goes c.write-3.ensures.crash c.write-3.ensures.goes (omega arith) (omega (arith, c.requires.header)) (omega arith) (omega (arith, c.requires.header)) (omega arith) (omega (arith, c.requires.header)))
    c.sync.ensures.keeps c.sync.ensures.goes

pub returns-clause-staged : goal.returns-clause-staged
returns-clause-staged g c =
    stages c.args.at c.args.header.now c.args.image.now (g.D.Disk.state c.args.disk.now).seen (g.D.Disk.state c.write.new.self).seen (g.D.Disk.state c.write-2.new.self).seen (g.D.Disk.state c.write-3.new.self).seen (g.D.Disk.state c.sync.new.self).seen c.requires.room c.requires.header c.requires.short c.in_ok-write.ensures.written c.in_ok-write-2.ensures.written c.in_ok-write-3.ensures.written c.sync.ensures.keeps.seen
