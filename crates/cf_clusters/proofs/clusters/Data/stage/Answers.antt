use Rattle.std.proofs.Common.{length, arith}
use Rattle.cf_clusters.proofs.Writes.{stage_crash, staged, staged_same}
use Rattle.cf_clusters.proofs.clusters.Data.stage.Goals as goal

pub returns-in_err-write-clause-crash : goal.returns-in_err-write-clause-crash
returns-in_err-write-clause-crash g c = stage_crash c.args.self.now c.in-Some.cluster (length c.args.bytes.now) (g.D.Disk.state c.args.disk.now) (g.D.Disk.state c.write.new.self) c.in-Some.ensures.some.1 c.told-bytes c.write.ensures.crash c.write.ensures.goes

pub returns-clause-crash : goal.returns-clause-crash
returns-clause-crash g c = stage_crash c.args.self.now c.in-Some.cluster (length c.args.bytes.now) (g.D.Disk.state c.args.disk.now) (g.D.Disk.state c.write.new.self) c.in-Some.ensures.some.1 c.told-bytes c.write.ensures.crash c.write.ensures.goes

pub returns-clause-wrote : goal.returns-clause-wrote
returns-clause-wrote g c = staged c.in-Some.cluster c.args.bytes.now (g.D.Disk.state c.args.disk.now).seen (g.D.Disk.state c.write.new.self).seen c.told-bytes (omega (arith, c.told-bytes, c.requires.room, c.in-Some.ensures.some.0)) c.in_ok-write.ensures.written

pub returns-clause-same : goal.returns-clause-same
returns-clause-same g c = staged_same c.args.self.now c.in-Some.cluster c.args.bytes.now (g.D.Disk.state c.args.disk.now).seen (g.D.Disk.state c.write.new.self).seen c.in-Some.ensures.some.1 c.told-bytes (omega (arith, c.told-bytes, c.requires.room, c.in-Some.ensures.some.0)) c.in_ok-write.ensures.written
