use Rattle.std.proofs.Common.{arith}
use Rattle.cf_engine_host.specs.BookSteps.{PutsBeside}
use Rattle.cf_engine_steps.specs.Answering.{On}
use Rattle.cf_engine_steps.specs.States.{whole}
use Rattle.cf_model.specs.Books.{with_cursor}
use Rattle.cf_model.specs.Skips.{try_book}
use Rattle.cf_engine_steps.proofs.CursorKept.{cursor_if}
use Rattle.cf_engine_steps.proofs.Laws.{known}
use Rattle.cf_engine_steps.proofs.cursors.put.Goals as goal

pub returns : goal.returns
returns g c = known (whole g.S.Steps.sense g.R.Remote.told) (On (PutsBeside c.in_ok-record.record (with_cursor c.args.clock))) (try_book (with_cursor c.args.clock)) (c.args.s.now, c.args.e.now) (c.put_or_leave_out.new.s, c.put_or_leave_out.new.e) c.put_or_leave_out.result
    (λ s i. (cursor_if g.S.Steps.sense g.met.S.EngineHost.keepable c.args.s.now c.in_ok-record.record c.args.clock c.in_ok-record.ensures (let h = c.if-clock-eq0.false in grind (arith, h))).puts s.filter i.filter) (c.put_or_leave_out.ensures (with_cursor c.args.clock))
