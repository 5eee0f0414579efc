use Rattle.std.proofs.Common.{◌∙◌, ap, sym}
use Rattle.std.specs.Prelude.{codes}
use Rattle.cf_check_traces.specs.Tests.{begins}
use Rattle.cf_check_compare.proofs.ToldLines.{no_word, word_found}
use Rattle.cf_check_compare.proofs.told_faults.is_reply_word.Goals as goal

pub returns-in-Some : goal.returns-in-Some
returns-in-Some c = c.begins.ensures ∙ ap (begins (codes " reply ")) c.after.ensures ∙ sym (word_found c.args.number.now c.in-Some.end (sym c.first_space.ensures ∙ c.in-Some.is))

pub returns-in-None : goal.returns-in-None
returns-in-None c = sym (no_word c.args.number.now (sym c.first_space.ensures ∙ c.in-None.is))
