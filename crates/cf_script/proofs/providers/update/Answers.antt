use Rattle.std.proofs.Common.{subst, sym}
use Rattle.std.specs.Result.{IfOk}
use Rattle.cf_script_words.specs.Words.{Reads}
use Rattle.cf_script.specs.Forms.{IsUpdate}
use Rattle.cf_script_words.proofs.WordLists.{two_exactly, three_exactly}
use Rattle.cf_script.proofs.providers.update.Goals as goal

pub returns-in-len2 : goal.returns-in-len2
returns-in-len2 c = subst (λ ws. IfOk c.update_in_place.result (Reads (IsUpdate ws))) (sym (two_exactly c.args.words.now c.in-len2.len_at_least c.in-len2.len_below)) c.update_in_place.ensures

pub returns-in-len3 : goal.returns-in-len3
returns-in-len3 c = subst (λ ws. IfOk c.update_sized.result (Reads (IsUpdate ws))) (sym (three_exactly c.args.words.now c.in-len3.len_at_least c.in-len3.len_below)) c.update_sized.ensures
