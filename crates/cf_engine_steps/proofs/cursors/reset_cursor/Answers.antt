use Rattle.cf_model.specs.Books.{with_cursor}
use Rattle.cf_engine_steps.proofs.BookTests.{drops_cursor}
use Rattle.cf_engine_steps.proofs.Recorded.{cursor_gone}
use Rattle.cf_engine_steps.proofs.cursors.reset_cursor.Goals as goal

pub returns : goal.returns
returns g c = cursor_gone g.S.Steps.sense g.R.Remote.told c.args.s.now c.drop_record.new.self c.args.e.now (λ s m. drops_cursor s (g.met.S.EngineHost.keepable c.args.s.now s m)) c.drop_record.result (c.drop_record.ensures (with_cursor 0))
