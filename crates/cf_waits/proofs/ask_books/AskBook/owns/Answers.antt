use Rattle.std.proofs.Common.{◌∙◌, Option, ap, refl}
use Rattle.std.specs.List.{list_all}
use Rattle.cf_model.specs.Requests.{Live, has_block}
use Rattle.cf_model.specs.Words.{counting}
use Rattle.cf_waits.proofs.AgedAsks.{test_told}
use Rattle.cf_waits.specs.Books.{KeptAsks}
use Rattle.cf_waits.specs.Told.{owns_by}
use Rattle.cf_waits.proofs.ask_books.AskBook.owns.Goals as goal

pub returns : goal.returns
returns c =
    c.owns_by.ensures ∙ ap (λ (o : Option Live). owns_by (counting c.args.blocks.start c.args.blocks.len) o) c.find_ask.ensures
    ∙ test_told (λ a. list_all (has_block a.owned) (counting c.args.blocks.start c.args.blocks.len)) (λ a n. refl) c.self.inside.tick c.args.key c.self.inside.asks.items c.deref.result.now c.args.self.now.asks c.deref.ensures.value (ap (λ (k : KeptAsks). k.asks) c.self.view_is)
