use Rattle.std.proofs.Common.{◌∙◌, sym}
use Rattle.cf_engine_steps.proofs.BookTests.{newest_from, none_newer}
use Rattle.cf_engine_steps.proofs.book_tests.is_newest.Goals as goal

pub returns-in-Some : goal.returns-in-Some
returns-in-Some c = λ h o. newest_from c.args.key.now c.args.records.now c.next.new.self c.in-Some.record.now o (sym c.from.ensures.value ∙ c.in-Some.ensures) (sym c.comes_after_entries.ensures ∙ h)

pub returns-in-None : goal.returns-in-None
returns-in-None c = λ h o. none_newer c.args.key.now c.args.records.now (sym c.from.ensures.value ∙ c.in-None.ensures)
