use Rattle.cf_journal.proofs.Opening.{reads_call}
use Rattle.cf_journal.proofs.Choosing.{slots_found, slots_none}
use Rattle.cf_journal.proofs.reads.read_slot.Goals as goal

pub returns-in_err-read-clause-reads : goal.returns-in_err-read-clause-reads
returns-in_err-read-clause-reads g c = reads_call c.read.result (g.D.Disk.state c.args.disk.now) (g.D.Disk.state c.read.new.self) c.read.ensures.keeps c.read.ensures.goes c.read.ensures.counts c.read.ensures.cause

pub returns-clause-reads : goal.returns-clause-reads
returns-clause-reads g c = reads_call c.read.result (g.D.Disk.state c.args.disk.now) (g.D.Disk.state c.read.new.self) c.read.ensures.keeps c.read.ensures.goes c.read.ensures.counts c.read.ensures.cause

pub returns-clause-found : goal.returns-clause-found
returns-clause-found g c = slots_found c.args.at c.size-size.result (g.D.Disk.state c.args.disk.now).seen c.read.new.out c.slot_of.result c.in_ok-read.ensures.got c.size-size.ensures c.slot_of.ensures.found

pub returns-clause-none : goal.returns-clause-none
returns-clause-none g c = slots_none c.args.at c.size-size.result (g.D.Disk.state c.args.disk.now).seen c.read.new.out c.slot_of.result c.in_ok-read.ensures.got c.size-size.ensures c.slot_of.ensures.none
