use Rattle.std.proofs.Common.{◌∙◌, sym}
use Rattle.cf_journal.proofs.Closing.{read_closing, letter_closing, gate_closing, letter_closes, gate_closes, gate_read}
use Rattle.cf_journal.proofs.writes.close.Goals as goal

pub returns-in_err-read-clause-crash : goal.returns-in_err-read-clause-crash
returns-in_err-read-clause-crash g c = read_closing (g.D.Disk.state c.args.disk.now) (g.D.Disk.state c.read.new.self) c.args.at c.read.ensures.keeps c.read.ensures.goes

pub returns-in_err-put-clause-crash : goal.returns-in_err-put-clause-crash
returns-in_err-put-clause-crash g c =
    letter_closing _ _ _ _ c.read.ensures.keeps c.read.ensures.goes (sym (gate_read c.args.at _ _ c.in_ok-read.ensures.got) ∙ c.if-gate-eq0.true) c.put.ensures.crash

pub returns-then-gate-eq0-clause-crash : goal.returns-then-gate-eq0-clause-crash
returns-then-gate-eq0-clause-crash g c =
    letter_closing _ _ _ _ c.read.ensures.keeps c.read.ensures.goes (sym (gate_read c.args.at _ _ c.in_ok-read.ensures.got) ∙ c.if-gate-eq0.true) c.put.ensures.crash

pub returns-then-gate-eq0-clause-closed : goal.returns-then-gate-eq0-clause-closed
returns-then-gate-eq0-clause-closed g c =
    letter_closes (g.D.Disk.state c.args.disk.now) (g.D.Disk.state c.read.new.self) (g.D.Disk.state c.put.new.disk) c.args.at c.read.ensures.keeps c.read.ensures.goes c.requires.room (sym (gate_read c.args.at _ _ c.in_ok-read.ensures.got) ∙ c.if-gate-eq0.true) c.in_ok-put.ensures.written

pub returns-in_err-put-2-clause-crash : goal.returns-in_err-put-2-clause-crash
returns-in_err-put-2-clause-crash g c =
    gate_closing _ _ _ _ c.read.ensures.keeps c.read.ensures.goes (λ shut. c.if-gate-eq0.false (gate_read c.args.at _ _ c.in_ok-read.ensures.got ∙ shut)) c.put-2.ensures.crash

pub returns-clause-crash : goal.returns-clause-crash
returns-clause-crash g c =
    gate_closing _ _ _ _ c.read.ensures.keeps c.read.ensures.goes (λ shut. c.if-gate-eq0.false (gate_read c.args.at _ _ c.in_ok-read.ensures.got ∙ shut)) c.put-2.ensures.crash

pub returns-clause-closed : goal.returns-clause-closed
returns-clause-closed g c =
    gate_closes (g.D.Disk.state c.args.disk.now) (g.D.Disk.state c.read.new.self) (g.D.Disk.state c.put-2.new.disk) c.args.at c.read.ensures.keeps c.read.ensures.goes c.requires.room c.in_ok-put-2.ensures.written
