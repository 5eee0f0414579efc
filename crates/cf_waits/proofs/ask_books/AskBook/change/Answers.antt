use Rattle.std.proofs.Common.{ap}
use Rattle.cf_waits.proofs.AskChanges.{asks_changed, changed_aged}
use Rattle.cf_waits.proofs.AskEnds.{ends_changed}
use Rattle.cf_waits.specs.Books.{KeptAsks}
use Rattle.cf_waits.proofs.ask_books.AskBook.change.Goals as goal

pub invariant_of-self : goal.invariant_of-self
invariant_of-self c =
    asks_changed c.args.from.ask.key c.args.from.owned c.self.inside.asks.items c.change_ask.new.asks.items c.self.inside.index.items c.self.inside.plain c.self.inside.lists c.self.inside.oldest c.self.inside.tick c.self.inside.end c.max-end.result c.self.invariant c.change_ask.ensures.items
    (ends_changed c.args.from.ask.key c.args.from.owned c.self.inside.tick c.self.inside.end c.block_end.result c.max-end.result c.self.inside.asks.items c.change_ask.new.asks.items c.self.invariant.ends c.block_end.ensures c.max-end.ensures c.change_ask.ensures.items)

pub returns-clause-asks : goal.returns-clause-asks
returns-clause-asks c = changed_aged c.args.from.ask.key c.args.from.owned c.self.inside.tick c.self.inside.asks.items c.change_ask.new.asks.items c.args.self.now.asks c.change_ask.ensures.items (ap (λ (k : KeptAsks). k.asks) c.self.view_is)
