use Rattle.std.proofs.Common.{false, subst, sym}
use Rattle.std.specs.Result.{IfOk}
use Rattle.cf_script_words.specs.Words.{Reads}
use Rattle.cf_script_words.specs.Entries.{IsEntryRest}
use Rattle.cf_script_words.proofs.WordLists.{two_words}
use Rattle.cf_script_words.proofs.directory_entries.file_rest.Goals as goal

pub returns-in-len2-up : goal.returns-in-len2-up
returns-in-len2-up c = subst (λ ws. IfOk c.file_item.result (Reads (IsEntryRest false c.args.name ws))) (sym (two_words c.args.words.now c.in-len2-up.len_at_least)) c.file_item.ensures
