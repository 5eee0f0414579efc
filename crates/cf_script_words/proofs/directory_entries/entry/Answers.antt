use Rattle.std.proofs.Common.{◌∙◌, ap, subst}
use Rattle.std.specs.Result.{IfOk}
use Rattle.cf_script_words.specs.Words.{Reads}
use Rattle.cf_script_words.specs.Entries.{AreFields}
use Rattle.cf_script_words.proofs.WordLists.{texts}
use Rattle.cf_script_words.proofs.directory_entries.entry.Goals as goal

pub returns : goal.returns
returns c = subst (λ ws. IfOk c.entry_of.result (Reads (AreFields ws))) (ap texts c.as_slice.ensures.value ∙ c.in_ok-fields.ensures) c.entry_of.ensures
