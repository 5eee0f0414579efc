use Rattle.std.proofs.Common.{◌∙◌, ap, refl}
use Rattle.cf_waits.proofs.AgedAsks.{aged_count}
use Rattle.cf_waits.specs.Books.{KeptAsks, is_plain_ask}
use Rattle.cf_waits.proofs.ask_books.AskBook.plain.Goals as goal

pub returns : goal.returns
returns c = c.self.invariant.count ∙ aged_count is_plain_ask (λ a n. refl) c.self.inside.tick c.self.inside.asks.items c.args.self.now.asks (ap (λ (k : KeptAsks). k.asks) c.self.view_is)
