use Rattle.std.proofs.Common.{◌∙◌}
use Rattle.cf_engine_host.specs.BookSteps.{DropsRecord}
use Rattle.cf_model.specs.Books.{without_entry}
use Rattle.cf_engine_steps.proofs.BookTests.{drops_entry}
use Rattle.cf_engine_steps.proofs.Recorded.{book_any}
use Rattle.cf_engine_steps.proofs.books.end_entry.Goals as goal

pub returns : goal.returns
returns g c = book_any g.S.Steps.sense g.R.Remote.told c.args.s.now c.drop_record.new.self c.args.e.now (DropsRecord c.as_slice.result.now (without_entry c.args.token)) (without_entry c.args.token) c.drop_record.result
    (λ s m. drops_entry c.as_slice.result.now c.args.token s c.entry_key.ensures.fits (c.as_slice.ensures ∙ c.in_ok-key.ensures.ok) (g.met.S.EngineHost.keepable c.args.s.now s m))
    (c.drop_record.ensures (without_entry c.args.token))
