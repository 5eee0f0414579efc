use Rattle.std.proofs.Common.{sym, ◌∙◌}
use Rattle.cf_remote.proofs.PeerAnswers.{known_shows, stray_shows}
use Rattle.cf_remote.proofs.sending.answer_by.Goals as goal

pub returns-in-Some : goal.returns-in-Some
returns-in-Some c = known_shows c.args.reply c.args.fit c.in-Some.shown c.answer.result (sym c.verdict.ensures ∙ c.in-Some.is) c.answer.ensures

pub returns-in-None : goal.returns-in-None
returns-in-None c = stray_shows c.args.reply c.args.fit c.answer-in-None.result (sym c.verdict.ensures ∙ c.in-None.is) c.answer-in-None.ensures
