use Rattle.std.proofs.Common.{◌≡◌, List, ap, refl, subst}
use Rattle.std.specs.Prelude.{IfOk}
use Rattle.cf_model.specs.Requests.{Live}
use Rattle.cf_waits.proofs.AgedAsks.{near_aged, near_told}
use Rattle.cf_waits.proofs.Booked.{found_are, in_order}
use Rattle.cf_waits.specs.Books.{KeptAsks, ask_entry}
use Rattle.cf_waits.specs.Rising.{ask_key}
use Rattle.cf_waits.proofs.ask_books.AskBook.near.Goals as goal

pub returns-then-is_far : goal.returns-then-is_far
returns-then-is_far c =
    subst (λ (l : List Live). IfOk c.near_of.result (λ v. v.items ≡ l))
    (near_aged c.args.item c.args.key c.self.inside.tick c.self.inside.asks.items c.deref-then-is_far.result.now c.args.self.now.asks c.deref-then-is_far.ensures.value (ap (λ (k : KeptAsks). k.asks) c.self.view_is)) c.near_of.ensures

pub entries_on-requires : goal.entries_on-requires
entries_on-requires c = in_order ask_entry ask_key (λ a. refl) c.self.inside.asks.items c.self.inside.index.items c.deref-3.result.now c.self.invariant.rising c.self.invariant.index c.deref-3.ensures.value

pub returns : goal.returns
returns c =
    subst (λ (l : List Live). IfOk c.found_of.result (λ v. v.items ≡ l))
    (near_told c.args.item c.args.key c.self.inside.tick c.self.inside.asks.items c.deref.result.now _ c.args.self.now.asks c.is_far.result c.self.invariant.rising c.deref.ensures.value c.is_far.ensures c.if-is_far.false
    (found_are ask_entry ask_key (λ a. refl) c.args.item c.self.inside.asks.items c.deref-2.result.now c.self.inside.asks.items c.self.inside.index.items c.deref-3.result.now c.entries_on.result.now
    c.self.invariant.rising c.self.invariant.index c.deref-2.ensures.value c.deref-3.ensures.value c.entries_on.ensures refl) (ap (λ (k : KeptAsks). k.asks) c.self.view_is)) c.found_of.ensures
