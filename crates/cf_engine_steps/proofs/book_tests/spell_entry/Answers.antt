use Rattle.cf_engine_queue.specs.Books.{entry_value}
use Rattle.cf_engine_steps.proofs.BookTests.{entry_if}
use Rattle.cf_engine_steps.proofs.book_tests.spell_entry.Goals as goal

pub returns : goal.returns
returns g c = entry_if g.S.Steps.sense g.met.S.EngineHost.keepable c.args.s.now c.in_ok-record.record (entry_value c.args.entry.now) c.records.result.now c.as_slice.result.now c.is_newest.result c.in_ok-record.ensures c.records.ensures c.as_slice.ensures c.is_newest.ensures c.if-not-is_newest.false
