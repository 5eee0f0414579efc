use Rattle.std.proofs.Common.{◌∙◌, Option, ap, sym}
use Rattle.cf_model.specs.Requests.{Live}
use Rattle.cf_waits.specs.Books.{if_key}
use Rattle.cf_waits.specs.Rising.{ask_key}
use Rattle.cf_waits.proofs.ByNumber.{key_is}
use Rattle.cf_waits.proofs.ask_lists.find_ask.Goals as goal

pub returns : goal.returns
returns c = c.ask_by.ensures ∙ ap (λ (o : Option Live). if_key ask_key c.args.key o) c.ask_at.ensures ∙ sym (key_is ask_key c.args.key c.args.asks.now c.requires)
