use Rattle.std.proofs.Common.{◌∙◌}
use Rattle.cf_engine_host.specs.BookSteps.{DropsRecord}
use Rattle.cf_model.specs.Books.{without_tombstone}
use Rattle.cf_engine_steps.proofs.BookTests.{drops_tombstone}
use Rattle.cf_engine_steps.proofs.Recorded.{book_any}
use Rattle.cf_engine_steps.proofs.books.drop_tombstone.Goals as goal

pub returns : goal.returns
returns g c = book_any g.S.Steps.sense g.R.Remote.told c.args.s.now c.drop_record.new.self c.args.e.now (DropsRecord c.as_slice.result.now (without_tombstone c.args.number)) (without_tombstone c.args.number) c.drop_record.result
    (λ s m. drops_tombstone c.as_slice.result.now c.args.number s c.tombstone_key.ensures.fits (c.as_slice.ensures ∙ c.in_ok-key.ensures.ok) (g.met.S.EngineHost.keepable c.args.s.now s m))
    (c.drop_record.ensures (without_tombstone c.args.number))
