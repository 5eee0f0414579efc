use Rattle.std.proofs.Common.{◌∷◌, ◌∙◌, subst, sym, get_or}
use Rattle.std.specs.Result.{IfOk}
use Rattle.std.proofs.lemmas.Result.{IfOk-weaker}
use Rattle.cf_script_words.specs.Words.{Reads}
use Rattle.cf_script.specs.Forms.{Follows, AreWords}
use Rattle.cf_script_words.proofs.WordLists.{first_word, no_word, texts, after}
use Rattle.cf_script.proofs.CommandMeans.{words_read, foreign}
use Rattle.cf_script.proofs.lines.event_of.Goals as goal

pub returns-then-is_foreign : goal.returns-then-is_foreign
returns-then-is_foreign c = λ e is. foreign c.args.mode (get_or c.args.words.now 0 no_word).now (texts (after 1 c.args.words.now)) c.in-Some.command c.in-Some.ensures (sym c.is_foreign.ensures ∙ c.if-is_foreign.true) e (subst (λ ws. AreWords c.args.mode ws e) (first_word c.args.words.now c.in-len1-up.len_at_least) is)

pub returns : goal.returns
returns c = subst (λ ws. IfOk c.event_after.result (Reads (AreWords c.args.mode ws))) (sym (first_word c.args.words.now c.in-len1-up.len_at_least))
    (IfOk-weaker c.event_after.result (Reads (Follows c.in-Some.command (texts (after 1 c.args.words.now)))) (Reads (AreWords c.args.mode ((get_or c.args.words.now 0 no_word).now ∷ texts (after 1 c.args.words.now))))
    (λ o h. words_read c.args.mode (get_or c.args.words.now 0 no_word).now (texts (after 1 c.args.words.now)) c.in-Some.command o c.in-Some.ensures (sym c.is_foreign.ensures ∙ c.if-is_foreign.false) h)
    c.event_after.ensures)
