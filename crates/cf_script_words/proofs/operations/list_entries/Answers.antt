use Rattle.std.proofs.Common.{subst, sym}
use Rattle.std.specs.Result.{IfOk}
use Rattle.cf_script_words.specs.Words.{Reads}
use Rattle.cf_script_words.specs.Operations.{IsEntries}
use Rattle.cf_script_words.proofs.WordLists.{first_word}
use Rattle.cf_script_words.proofs.operations.list_entries.Goals as goal

pub returns-in-len1-up : goal.returns-in-len1-up
returns-in-len1-up c = subst (λ ws. IfOk c.good_entries.result (Reads (IsEntries c.args.key ws))) (sym (first_word c.args.words.now c.in-len1-up.len_at_least)) c.good_entries.ensures
