use Rattle.std.proofs.Common.{refl}
use Rattle.cf_waits.proofs.Booked.{in_order}
use Rattle.cf_waits.specs.Books.{wait_entry}
use Rattle.cf_waits.specs.Rising.{wait_key}
use Rattle.cf_waits.proofs.wait_books.WaitBook.is_quick.Goals as goal

pub entries_on-count-requires : goal.entries_on-count-requires
entries_on-count-requires c = in_order wait_entry wait_key (λ w. refl) c.self.inside.waits.items c.self.inside.index.items c.deref.result.now c.self.invariant.rising c.self.invariant.index c.deref.ensures.value
