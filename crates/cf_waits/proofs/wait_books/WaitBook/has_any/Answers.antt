use Rattle.std.proofs.Common.{◌∙◌, List, ap, eqb, length, not, refl}
use Rattle.std.specs.List.{list_any}
use Rattle.cf_model.specs.Missing.{Wait}
use Rattle.cf_waits.proofs.Booked.{entries_are, in_order, some_of}
use Rattle.cf_waits.specs.Books.{KeptWaits, wait_entry}
use Rattle.cf_waits.specs.Rising.{wait_key}
use Rattle.cf_waits.specs.declared.entries.Entry.{Entry}
use Rattle.cf_waits.proofs.wait_books.WaitBook.has_any.Goals as goal

pub entries_on-requires : goal.entries_on-requires
entries_on-requires c = in_order wait_entry wait_key (λ w. refl) c.self.inside.waits.items c.self.inside.index.items c.deref.result.now c.self.invariant.rising c.self.invariant.index c.deref.ensures.value

pub returns : goal.returns
returns c =
    ap not c.is_empty.ensures
    ∙ ap (λ (l : List Entry). not (eqb (length l) 0)) (entries_are wait_entry wait_key (λ w. refl) c.args.item c.self.inside.waits.items c.self.inside.index.items c.deref.result.now c.entries_on.result.now c.self.invariant.rising c.self.invariant.index c.deref.ensures.value c.entries_on.ensures)
    ∙ some_of wait_entry wait_key (λ w. refl) (λ w. eqb w.item.0 c.args.item.0) c.self.inside.waits.items
    ∙ ap (λ (k : KeptWaits). list_any (λ (w : Wait). eqb w.item.0 c.args.item.0) k.waits) c.self.view_is
