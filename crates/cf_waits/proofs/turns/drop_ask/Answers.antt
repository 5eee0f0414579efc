use Rattle.std.proofs.Common.{◌∙◌, Option, ap, not, sym}
use Rattle.std.specs.Prelude.{filter}
use Rattle.cf_base.specs.declared.ids.Key.{Key}
use Rattle.cf_model.specs.Numbers.{same_key}
use Rattle.cf_model.specs.Requests.{Live}
use Rattle.cf_model.specs.Words.{says}
use Rattle.cf_waits.proofs.Turning.{none_left_out}
use Rattle.cf_waits.proofs.turns.drop_ask.Goals as goal

pub returns-in-None-clause-asks : goal.returns-in-None-clause-asks
returns-in-None-clause-asks c = sym (none_left_out c.args.book.now.asks) ∙ ap (λ (o : Option Key). filter (λ (a : Live). not (says (same_key a.ask.key) o)) c.args.book.now.asks) (sym c.in-None.is)
