use Rattle.std.proofs.Common.{◌∙◌, ap, arith}
use Rattle.cf_waits.proofs.AgedAsks.{first_due, none_due}
use Rattle.cf_waits.specs.Books.{KeptAsks}
use Rattle.cf_waits.proofs.ask_books.AskBook.next_expired.Goals as goal

pub returns-then-self-least : goal.returns-then-self-least
returns-then-self-least c =
    none_due c.args.ticks c.self.inside.oldest c.self.inside.tick c.self.inside.asks.items c.args.self.now.asks c.self.invariant.begun (ap (λ (k : KeptAsks). k.asks) c.self.view_is) (omega (arith, c.if-self-least.true, c.saturating_sub-least.ensures))

pub returns : goal.returns
returns c =
    c.first_of_age.ensures
    ∙ first_due c.args.ticks c.self.inside.tick c.saturating_sub-least.result c.self.inside.asks.items c.deref.result.now c.args.self.now.asks c.deref.ensures.value c.saturating_sub-least.ensures (ap (λ (k : KeptAsks). k.asks) c.self.view_is)
