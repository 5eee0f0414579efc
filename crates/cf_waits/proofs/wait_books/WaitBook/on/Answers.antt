use Rattle.std.proofs.Common.{◌≡◌, List, ap, refl, subst}
use Rattle.std.specs.Prelude.{IfOk}
use Rattle.cf_model.specs.Missing.{Wait}
use Rattle.cf_waits.proofs.Booked.{found_are, in_order}
use Rattle.cf_waits.specs.Books.{KeptWaits, wait_entry}
use Rattle.cf_waits.specs.Rising.{wait_key}
use Rattle.cf_waits.proofs.wait_books.WaitBook.on.Goals as goal

pub entries_on-requires : goal.entries_on-requires
entries_on-requires c = in_order wait_entry wait_key (λ w. refl) c.self.inside.waits.items c.self.inside.index.items c.deref-2.result.now c.self.invariant.rising c.self.invariant.index c.deref-2.ensures.value

pub returns : goal.returns
returns c =
    subst (λ (l : List Wait). IfOk c.found_of.result (λ v. v.items ≡ l))
    (found_are wait_entry wait_key (λ w. refl) c.args.item c.self.inside.waits.items c.deref.result.now c.args.self.now.waits c.self.inside.index.items c.deref-2.result.now c.entries_on.result.now
    c.self.invariant.rising c.self.invariant.index c.deref.ensures.value c.deref-2.ensures.value c.entries_on.ensures (ap (λ (k : KeptWaits). k.waits) c.self.view_is)) c.found_of.ensures
