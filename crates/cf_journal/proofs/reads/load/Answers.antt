use Rattle.cf_journal.proofs.Opening.{reads_call}
use Rattle.cf_journal.proofs.reads.load.Goals as goal

pub returns-in_err-read-clause-reads : goal.returns-in_err-read-clause-reads
returns-in_err-read-clause-reads g c = reads_call c.read.result (g.D.Disk.state c.args.disk.now) (g.D.Disk.state c.read.new.self) c.read.ensures.keeps c.read.ensures.goes c.read.ensures.counts c.read.ensures.cause

pub returns-clause-reads : goal.returns-clause-reads
returns-clause-reads g c = reads_call c.read.result (g.D.Disk.state c.args.disk.now) (g.D.Disk.state c.read.new.self) c.read.ensures.keeps c.read.ensures.goes c.read.ensures.counts c.read.ensures.cause
