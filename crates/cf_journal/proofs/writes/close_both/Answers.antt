use Rattle.cf_journal.proofs.FormatCrash.{first_two, second_two, both_shut, both_rest}
use Rattle.cf_journal.proofs.writes.close_both.Goals as goal

pub returns-in_err-write-clause-crash : goal.returns-in_err-write-clause-crash
returns-in_err-write-clause-crash g c = first_two (g.D.Disk.state c.args.disk.now) (g.D.Disk.state c.write.new.self) (g.D.Disk.state c.write.new.self) c.args.first c.args.second c.write.ensures.crash c.write.ensures.goes

pub returns-in_err-put-clause-crash : goal.returns-in_err-put-clause-crash
returns-in_err-put-clause-crash g c = second_two (g.D.Disk.state c.args.disk.now) (g.D.Disk.state c.write.new.self) (g.D.Disk.state c.put.new.disk) c.args.first c.args.second c.write.ensures.crash c.write.ensures.goes c.put.ensures.crash

pub returns-clause-crash : goal.returns-clause-crash
returns-clause-crash g c = second_two (g.D.Disk.state c.args.disk.now) (g.D.Disk.state c.write.new.self) (g.D.Disk.state c.put.new.disk) c.args.first c.args.second c.write.ensures.crash c.write.ensures.goes c.put.ensures.crash

pub returns-clause-gates : goal.returns-clause-gates
returns-clause-gates g c = both_shut (g.D.Disk.state c.args.disk.now) (g.D.Disk.state c.write.new.self) (g.D.Disk.state c.put.new.disk) c.args.first c.args.second c.requires.order c.requires.low c.requires.room c.in_ok-write.ensures.written c.in_ok-put.ensures.written

pub returns-clause-rest : goal.returns-clause-rest
returns-clause-rest g c = both_rest (g.D.Disk.state c.args.disk.now) (g.D.Disk.state c.write.new.self) (g.D.Disk.state c.put.new.disk) c.args.first c.args.second c.requires.order c.requires.low c.requires.room c.in_ok-write.ensures.written c.in_ok-put.ensures.written
