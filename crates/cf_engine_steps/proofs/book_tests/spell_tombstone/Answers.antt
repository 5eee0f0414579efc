use Rattle.cf_engine_queue.specs.Books.{tombstone_value}
use Rattle.cf_engine_steps.proofs.BookTests.{tombstone_if}
use Rattle.cf_engine_steps.proofs.book_tests.spell_tombstone.Goals as goal

pub returns : goal.returns
returns g c = tombstone_if g.S.Steps.sense g.met.S.EngineHost.keepable c.args.s.now c.in_ok-record.record (tombstone_value c.args.tombstone.now) c.was_given.result c.in_ok-is_new.field-0 c.in_ok-record.ensures c.was_given.ensures c.if-not-was_given.false c.in_ok-is_new.ensures c.if-not-branch.false
