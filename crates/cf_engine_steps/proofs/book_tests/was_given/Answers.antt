use Rattle.std.proofs.lemmas.Bool.{leb-true}
use Rattle.cf_engine_steps.proofs.BookTests.{given_all, given_next}
use Rattle.cf_engine_steps.proofs.book_tests.was_given.Goals as goal

pub returns-in-Some : goal.returns-in-Some
returns-in-Some g c = given_next g.S.Steps.sense c.args.s.now c.args.number c.next_number.result c.is_above.result c.in-Some.next c.next_number.ensures c.in-Some.is c.is_above.ensures

pub returns-in-None : goal.returns-in-None
returns-in-None g c = given_all g.S.Steps.sense c.args.s.now c.args.number c.next_number.result _ c.epoch.result c.next_number.ensures c.in-None.is c.epoch.ensures (λ h. leb-true c.args.number.epoch c.epoch.result h)
