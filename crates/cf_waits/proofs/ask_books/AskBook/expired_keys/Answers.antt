use Rattle.std.proofs.Common.{◌∙◌, ap, arith}
use Rattle.cf_waits.proofs.AgedAsks.{keys_due, no_keys}
use Rattle.cf_waits.specs.Books.{KeptAsks}
use Rattle.cf_waits.proofs.ask_books.AskBook.expired_keys.Goals as goal

pub returns : goal.returns
returns c =
    c.in_ok-keys.ensures ∙ keys_due c.self.inside.tick c.self.inside.asks.items c.deref.result.now c.args.self.now.asks c.deref.ensures.value (ap (λ (k : KeptAsks). k.asks) c.self.view_is)

pub returns-then-self-lt60 : goal.returns-then-self-lt60
returns-then-self-lt60 c =
    c.new.ensures.items ∙ no_keys c.self.inside.oldest c.self.inside.tick c.self.inside.asks.items c.args.self.now.asks c.self.invariant.begun (ap (λ (k : KeptAsks). k.asks) c.self.view_is) (omega (arith, c.if-self-lt60.true))
