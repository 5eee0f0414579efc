use Rattle.cf_engine_steps.proofs.BookTests.{number_if}
use Rattle.cf_engine_steps.proofs.books.check_number.Goals as goal

pub returns-then-has_number : goal.returns-then-has_number
returns-then-has_number g c = number_if g.S.Steps.sense c.args.s.now c.args.item c.args.number c.has_number.result c.has_number.ensures c.if-has_number.true
