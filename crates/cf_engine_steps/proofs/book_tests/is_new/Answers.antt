use Rattle.cf_engine_steps.proofs.BookTests.{new_if}
use Rattle.cf_engine_steps.proofs.book_tests.is_new.Goals as goal

pub returns : goal.returns
returns g c = new_if g.S.Steps.sense g.met.S.EngineHost.keepable c.args.s.now c.args.number c.records.result.now c.in_ok-found.found c.is_none.result c.records.ensures c.in_ok-found.ensures c.is_none.ensures
