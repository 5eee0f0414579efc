use Rattle.std.proofs.Common.{◌∙◌, Option, ap, refl}
use Rattle.std.specs.Option.{option_map}
use Rattle.cf_model.specs.Requests.{Live}
use Rattle.cf_waits.proofs.AgedAsks.{part_told}
use Rattle.cf_waits.specs.Books.{KeptAsks}
use Rattle.cf_waits.proofs.ask_books.AskBook.find.Goals as goal

pub returns : goal.returns
returns c =
    c.told_of.ensures ∙ ap (λ (o : Option Live). option_map (λ a. (a.ask, a.wait)) o) c.find_ask.ensures
    ∙ part_told (λ a. (a.ask, a.wait)) (λ a n. refl) c.self.inside.tick c.args.key c.self.inside.asks.items c.deref.result.now c.args.self.now.asks c.deref.ensures.value (ap (λ (k : KeptAsks). k.asks) c.self.view_is)
