use Rattle.cf_engine_steps.specs.Answering.{Any}
use Rattle.cf_engine_steps.specs.States.{whole}
use Rattle.cf_model.specs.Books.{with_cursor}
use Rattle.cf_model.specs.Skips.{try_book}
use Rattle.cf_engine_steps.proofs.BookTests.{drops_cursor}
use Rattle.cf_engine_steps.proofs.CursorKept.{cursor_cleared, cursor_lost}
use Rattle.cf_engine_steps.proofs.Laws.{with_err}
use Rattle.cf_engine_steps.proofs.cursors.clear.Goals as goal

pub returns-in_err-drop_record : goal.returns-in_err-drop_record
returns-in_err-drop_record g c = with_err (whole g.S.Steps.sense g.R.Remote.told) Any (try_book (with_cursor 0)) (c.args.s.now, c.args.e.now) (c.drop_record.new.self, c.args.e.now) c.in_err-drop_record.field-0.0 c.from_residual.result c.from_residual.ensures.1
    (cursor_lost g.S.Steps.sense g.R.Remote.told c.args.s.now c.drop_record.new.self c.args.e.now (λ s m. drops_cursor s (g.met.S.EngineHost.keepable c.args.s.now s m)) c.in_err-drop_record.field-0.0 (c.in_err-drop_record.ensures (with_cursor 0)))

pub returns : goal.returns
returns g c = cursor_cleared g.S.Steps.sense g.R.Remote.told c.args.s.now c.drop_record.new.self c.args.e.now (λ s m. drops_cursor s (g.met.S.EngineHost.keepable c.args.s.now s m)) c.in_ok-drop_record.field-0 (c.in_ok-drop_record.ensures (with_cursor 0))
