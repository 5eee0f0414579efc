use Rattle.std.proofs.Common.{◌∙◌, ap, subst}
use Rattle.std.specs.Result.{IfOk}
use Rattle.cf_script_words.specs.Words.{Reads}
use Rattle.cf_script.specs.Forms.{AreWords}
use Rattle.cf_script_words.proofs.WordLists.{texts}
use Rattle.cf_script.proofs.lines.event_of_text.Goals as goal

pub returns-in-Ok : goal.returns-in-Ok
returns-in-Ok c = subst (λ ws. IfOk c.event_of.result (Reads (AreWords c.args.mode ws))) (ap texts c.as_slice.ensures.value ∙ c.in-Ok.ensures) c.event_of.ensures
