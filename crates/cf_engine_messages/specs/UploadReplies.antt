-- What a reply does to the entry of its upload, which mirrors the code: no definitions to believe.
use Rattle.cf_base.specs.declared.ids.Rid.{Rid}
use Rattle.cf_base.specs.declared.ids.Token.{Token}
use Rattle.cf_base.specs.declared.ids.Version.{Version}
use Rattle.cf_base.specs.declared.messages.Why.{Why}
use Rattle.cf_model.specs.Arrows.{Arrow}
use Rattle.cf_model.specs.Books.{QueueEntry}
use Rattle.cf_model.specs.Messages.{entry_live, with_entry}
use Rattle.cf_model.specs.PushReplies.{take_done, take_refused}
use Rattle.cf_model.specs.State.{State}

-- nothing where no entry is live under the token
abbrev pub at_entry : (QueueEntry → Arrow State (Unit {0})) → Token → Arrow State (Unit {0})
at_entry f token s = with_entry f (entry_live s token) s

abbrev pub done_by : Rid → Version → QueueEntry → Arrow State (Unit {0})
done_by rid version e = take_done e rid version

abbrev pub refused_by : Why → QueueEntry → Arrow State (Unit {0})
refused_by why e = take_refused e why
