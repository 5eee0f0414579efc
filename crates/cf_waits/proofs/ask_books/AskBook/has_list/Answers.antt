use Rattle.std.proofs.Common.{ap}
use Rattle.cf_waits.proofs.AgedAsks.{lists_told}
use Rattle.cf_waits.specs.Books.{KeptAsks}
use Rattle.cf_waits.proofs.ask_books.AskBook.has_list.Goals as goal

pub returns : goal.returns
returns c = lists_told c.self.inside.lists c.self.inside.tick c.self.inside.asks.items c.args.self.now.asks c.self.invariant.list_count (ap (λ (k : KeptAsks). k.asks) c.self.view_is)
