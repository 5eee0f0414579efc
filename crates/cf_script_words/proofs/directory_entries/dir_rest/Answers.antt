use Rattle.std.proofs.Common.{true, subst, sym}
use Rattle.std.specs.Result.{IfOk}
use Rattle.cf_script_words.specs.Words.{Reads}
use Rattle.cf_script_words.specs.Entries.{IsEntryRest}
use Rattle.cf_script_words.proofs.WordLists.{first_word}
use Rattle.cf_script_words.proofs.directory_entries.dir_rest.Goals as goal

pub returns-in-len1-up : goal.returns-in-len1-up
returns-in-len1-up c = subst (λ ws. IfOk c.dir_item.result (Reads (IsEntryRest true c.args.name ws))) (sym (first_word c.args.words.now c.in-len1-up.len_at_least)) c.dir_item.ensures
