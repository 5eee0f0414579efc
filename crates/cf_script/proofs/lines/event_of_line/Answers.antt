use Rattle.std.proofs.Common.{sym, ◌∙◌}
use Rattle.std.proofs.lemmas.Result.{IfOk-weaker}
use Rattle.cf_script_words.specs.Words.{Reads}
use Rattle.cf_script.specs.Forms.{AreWords}
use Rattle.cf_script.specs.Script.{words_of, Spells}
use Rattle.cf_script.proofs.LinesRead.{line_reads}
use Rattle.cf_script.proofs.lines.event_of_line.Goals as goal

pub returns-in-Ok : goal.returns-in-Ok
returns-in-Ok c = IfOk-weaker c.event_of_text.result (Reads (AreWords c.args.mode (words_of c.in-Ok.line.now))) (Reads (Spells c.args.mode c.args.line.now))
    (λ o h. line_reads c.args.mode c.args.line.now c.in-Ok.line.now o c.in-Ok.ensures.cases.0 c.in-Ok.ensures.cases.1 (sym c.is_plain.ensures ∙ c.if-not-is_plain.false) h) c.event_of_text.ensures
