use Rattle.std.proofs.Common.{◌∙◌, Option, ap, sym}
use Rattle.std.specs.Prelude.{map}
use Rattle.cf_model.specs.Requests.{Live}
use Rattle.cf_waits.proofs.Turning.{none_changed}
use Rattle.cf_waits.specs.Steps.{changed_by}
use Rattle.cf_waits.proofs.turns.change_ask.Goals as goal

pub returns-in-None-clause-asks : goal.returns-in-None-clause-asks
returns-in-None-clause-asks c = none_changed c.args.book.now.asks ∙ ap (λ (o : Option Live). map (changed_by o) c.args.book.now.asks) (sym c.in-None.is)
