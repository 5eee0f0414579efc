use Rattle.std.proofs.Common.{ap, refl}
use Rattle.cf_model.specs.Requests.{is_hydrate_wait}
use Rattle.cf_waits.proofs.Booked.{any_is, in_order}
use Rattle.cf_waits.specs.Books.{KeptWaits, wait_entry}
use Rattle.cf_waits.specs.Rising.{wait_key}
use Rattle.cf_waits.proofs.wait_books.WaitBook.has_hydrate.Goals as goal

pub entries_on-requires : goal.entries_on-requires
entries_on-requires c = in_order wait_entry wait_key (λ w. refl) c.self.inside.waits.items c.self.inside.index.items c.deref-2.result.now c.self.invariant.rising c.self.invariant.index c.deref-2.ensures.value

pub returns : goal.returns
returns c =
    any_is wait_entry wait_key (λ w. refl) (λ w. is_hydrate_wait w.kind) c.args.item c.self.inside.waits.items c.deref.result.now c.args.self.now.waits c.self.inside.index.items c.deref-2.result.now c.entries_on.result.now c.any_hydrate.result
    c.self.invariant.rising c.self.invariant.index c.deref.ensures.value c.deref-2.ensures.value c.entries_on.ensures (ap (λ (k : KeptWaits). k.waits) c.self.view_is) c.any_hydrate.ensures
