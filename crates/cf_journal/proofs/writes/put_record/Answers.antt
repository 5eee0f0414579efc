use Rattle.std.proofs.Common.{length, ap, arith, ◌+◌}
use Rattle.cf_disk.specs.Disk.{Near}
use Rattle.cf_disk.specs.Leaving.{leaves_on, leaves_weaker, leaves_write, near_on, near_wider}
use Rattle.cf_journal.proofs.Staging.{third, records}
use Rattle.cf_journal.proofs.writes.put_record.Goals as goal

pub returns-in_err-write-clause-crash : goal.returns-in_err-write-clause-crash
returns-in_err-write-clause-crash g c =
    leaves_weaker (g.D.Disk.state c.args.disk.now) (g.D.Disk.state c.write.new.self) (Near (g.D.Disk.state c.args.disk.now) c.args.at (length c.to_be_bytes-len.result)) (Near (g.D.Disk.state c.args.disk.now) c.args.at (5 + length c.args.payload.now))
    (leaves_write (g.D.Disk.state c.args.disk.now) (g.D.Disk.state c.write.new.self) c.args.at (length c.to_be_bytes-len.result) c.write.ensures.crash c.write.ensures.goes)
    (near_wider (g.D.Disk.state c.args.disk.now) c.args.at (5 + length c.args.payload.now) c.args.at (length c.to_be_bytes-len.result) (omega arith) (omega (arith, ap length c.to_be_bytes-len.ensures)))

pub returns-in_err-write-2-clause-crash : goal.returns-in_err-write-2-clause-crash
returns-in_err-write-2-clause-crash g c =
    near_on (g.D.Disk.state c.args.disk.now) (g.D.Disk.state c.write.new.self) (g.D.Disk.state c.write-2.new.self) c.args.at (5 + length c.args.payload.now) (c.args.at + 4) (length c.args.payload.now)
    (leaves_weaker (g.D.Disk.state c.args.disk.now) (g.D.Disk.state c.write.new.self) (Near (g.D.Disk.state c.args.disk.now) c.args.at (length c.to_be_bytes-len.result)) (Near (g.D.Disk.state c.args.disk.now) c.args.at (5 + length c.args.payload.now))
    (leaves_write (g.D.Disk.state c.args.disk.now) (g.D.Disk.state c.write.new.self) c.args.at (length c.to_be_bytes-len.result) c.write.ensures.crash c.write.ensures.goes)
    (near_wider (g.D.Disk.state c.args.disk.now) c.args.at (5 + length c.args.payload.now) c.args.at (length c.to_be_bytes-len.result) (omega arith) (omega (arith, ap length c.to_be_bytes-len.ensures))))
    c.write-2.ensures.crash c.write-2.ensures.goes (omega arith) (omega arith)

pub returns-in_err-write-3-clause-crash : goal.returns-in_err-write-3-clause-crash
returns-in_err-write-3-clause-crash g c = third (g.D.Disk.state c.args.disk.now) (g.D.Disk.state c.write.new.self) (g.D.Disk.state c.write-2.new.self) (g.D.Disk.state c.write-3.new.self) c.args.at (5 + length c.args.payload.now) c.args.at _ (c.args.at + 4) _ (c.args.at + 4 + length c.args.payload.now) _ c.write.ensures.crash c.write.ensures.goes c.write-2.ensures.crash c.write-2.ensures.goes c.write-3.ensures.crash c.write-3.ensures.goes (omega arith) (omega (arith, ap length c.to_be_bytes-len.ensures)) (omega arith) (omega (arith, ap length c.to_be_bytes-len.ensures)) (omega arith) (omega (arith, ap length c.to_be_bytes-len.ensures))

pub returns-in_err-sync-clause-crash : goal.returns-in_err-sync-clause-crash
returns-in_err-sync-clause-crash g c =
    leaves_on (g.D.Disk.state c.args.disk.now) (g.D.Disk.state c.write-3.new.self) (g.D.Disk.state c.sync.new.self) (Near (g.D.Disk.state c.args.disk.now) (c.args.at) (5 + length c.args.payload.now))
    (third (g.D.Disk.state c.args.disk.now) (g.D.Disk.state c.write.new.self) (g.D.Disk.state c.write-2.new.self) (g.D.Disk.state c.write-3.new.self) c.args.at (5 + length c.args.payload.now) c.args.at _ (c.args.at + 4) _ (c.args.at + 4 + length c.args.payload.now) _ c.write.ensures.crash c.write.ensures.goes c.write-2.ensures.crash c.write-2.ensures.goes c.write-3.ensures.crash c.write-3.ensures.goes (omega arith) (omega (arith, ap length c.to_be_bytes-len.ensures)) (omega arith) (omega (arith, ap length c.to_be_bytes-len.ensures)) (omega arith) (omega (arith, ap length c.to_be_bytes-len.ensures)))
    c.sync.ensures.keeps c.sync.ensures.goes

pub returns-clause-crash : goal.returns-clause-crash
returns-clause-crash g c =
    leaves_on (g.D.Disk.state c.args.disk.now) (g.D.Disk.state c.write-3.new.self) (g.D.Disk.state c.sync.new.self) (Near (g.D.Disk.state c.args.disk.now) (c.args.at) (5 + length c.args.payload.now))
    (third (g.D.Disk.state c.args.disk.now) (g.D.Disk.state c.write.new.self) (g.D.Disk.state c.write-2.new.self) (g.D.Disk.state c.write-3.new.self) c.args.at (5 + length c.args.payload.now) c.args.at _ (c.args.at + 4) _ (c.args.at + 4 + length c.args.payload.now) _ c.write.ensures.crash c.write.ensures.goes c.write-2.ensures.crash c.write-2.ensures.goes c.write-3.ensures.crash c.write-3.ensures.goes (omega arith) (omega (arith, ap length c.to_be_bytes-len.ensures)) (omega arith) (omega (arith, ap length c.to_be_bytes-len.ensures)) (omega arith) (omega (arith, ap length c.to_be_bytes-len.ensures)))
    c.sync.ensures.keeps c.sync.ensures.goes

pub returns-clause-written : goal.returns-clause-written
returns-clause-written g c =
    records c.args.at c.to_be_bytes-len.result c.args.payload.now (g.D.Disk.state c.args.disk.now).seen (g.D.Disk.state c.write.new.self).seen (g.D.Disk.state c.write-2.new.self).seen (g.D.Disk.state c.write-3.new.self).seen (g.D.Disk.state c.sync.new.self).seen c.requires.room c.to_be_bytes-len.ensures c.in_ok-write.ensures.written c.in_ok-write-2.ensures.written c.in_ok-write-3.ensures.written c.sync.ensures.keeps.seen
