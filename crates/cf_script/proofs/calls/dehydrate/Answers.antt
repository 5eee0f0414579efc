use Rattle.std.proofs.Common.{subst, sym}
use Rattle.std.specs.Result.{IfOk}
use Rattle.cf_script_words.specs.Words.{Reads}
use Rattle.cf_script.specs.Forms.{IsDehydrate}
use Rattle.cf_script_words.proofs.WordLists.{one_word, three_exactly}
use Rattle.cf_script.proofs.calls.dehydrate.Goals as goal

pub returns-in-len1 : goal.returns-in-len1
returns-in-len1 c = subst (λ ws. IfOk c.dehydrate_all.result (Reads (IsDehydrate ws))) (sym (one_word c.args.words.now c.in-len1.len_at_least c.in-len1.len_below)) c.dehydrate_all.ensures

pub returns-in-len3 : goal.returns-in-len3
returns-in-len3 c = subst (λ ws. IfOk c.dehydrate_range.result (Reads (IsDehydrate ws))) (sym (three_exactly c.args.words.now c.in-len3.len_at_least c.in-len3.len_below)) c.dehydrate_range.ensures
