use Rattle.std.proofs.Common.{subst, sym}
use Rattle.std.specs.Result.{IfOk}
use Rattle.cf_script_words.specs.Words.{Reads}
use Rattle.cf_script.specs.Forms.{IsPlace}
use Rattle.cf_script_words.proofs.WordLists.{three_words}
use Rattle.cf_script.proofs.providers.place.Goals as goal

pub returns-in-len3-up : goal.returns-in-len3-up
returns-in-len3-up c = subst (λ ws. IfOk c.place_item.result (Reads (IsPlace ws))) (sym (three_words c.args.words.now c.in-len3-up.len_at_least)) c.place_item.ensures
