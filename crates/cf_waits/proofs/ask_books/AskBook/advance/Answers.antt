use Rattle.std.proofs.Common.{ap, arith, refl}
use Rattle.cf_waits.proofs.AgedAsks.{asks_forward, forward_aged, known_forward}
use Rattle.cf_waits.proofs.Ages.{young}
use Rattle.cf_waits.proofs.AskEnds.{ends_forward}
use Rattle.cf_waits.specs.Books.{KeptAsks}
use Rattle.cf_waits.proofs.ask_books.AskBook.advance.Goals as goal

pub oldest_of-self-inside-requires-clause-begun : goal.oldest_of-self-inside-requires-clause-begun
oldest_of-self-inside-requires-clause-begun c =
    known_forward c.self.inside.oldest c.self.inside.tick c.base_of-base.result c.saturating_sub.result c.self.inside.asks.items c.bring_forward.new.asks.items c.deref.result.now c.self.invariant.begun c.bring_forward.ensures.items c.deref.ensures.value c.saturating_sub.ensures

pub invariant_of-self : goal.invariant_of-self
invariant_of-self c =
    asks_forward c.self.inside.asks.items c.bring_forward.new.asks.items c.deref.result.now c.self.inside.index.items c.self.inside.plain c.self.inside.lists c.self.inside.oldest c.self.inside.tick c.self.inside.end c.base_of-base.result c.oldest_of-self-inside.result _
    c.self.invariant c.bring_forward.ensures.items c.deref.ensures.value c.oldest_of-self-inside.ensures.least c.oldest_of-self-inside.ensures.now (omega arith)
    (ends_forward c.base_of-base.result c.self.inside.end c.self.inside.asks.items c.bring_forward.new.asks.items c.self.invariant.ends c.bring_forward.ensures.items)

pub returns : goal.returns
returns c =
    forward_aged c.args.ticks c.self.inside.tick c.base_of-base.result _ c.self.inside.oldest c.self.inside.asks.items c.bring_forward.new.asks.items c.args.self.now.asks c.self.invariant.begun (young c.args.self.now.asks c.requires) c.base_of-base.ensures.few refl
    c.bring_forward.ensures.items (ap (λ (k : KeptAsks). k.asks) c.self.view_is)
