use Rattle.std.proofs.Common.{subst, sym}
use Rattle.cf_script_words.specs.Words.{Reads}
use Rattle.cf_script.specs.Forms.{IsCrash}
use Rattle.cf_script_words.proofs.WordLists.{one_word}
use Rattle.cf_script.proofs.short_lines.crash.Goals as goal

pub returns-in-len1 : goal.returns-in-len1
returns-in-len1 c = subst (λ ws. Reads (IsCrash ws) c.whole_crash.result) (sym (one_word c.args.words.now c.in-len1.len_at_least c.in-len1.len_below)) c.whole_crash.ensures
