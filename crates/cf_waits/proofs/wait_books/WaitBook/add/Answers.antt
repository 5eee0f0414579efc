use Rattle.std.proofs.Common.{◌+◌, ◌≤◌, length, ◌++◌, ◌∷◌, [], List, ap, arith, refl, subst, sym}
use Rattle.cf_model.specs.Missing.{Wait}
use Rattle.cf_waits.proofs.Booked.{in_order, push_done, waits_fit, waits_pushed}
use Rattle.cf_waits.specs.Books.{KeptWaits, wait_entry}
use Rattle.cf_waits.specs.Rising.{IsRising, wait_key}
use Rattle.cf_waits.proofs.wait_books.WaitBook.add.Goals as goal

pub add_entry-requires-clause-order : goal.add_entry-requires-clause-order
add_entry-requires-clause-order c = in_order wait_entry wait_key (λ w. refl) c.self.inside.waits.items c.self.inside.index.items c.self.inside.index.items c.self.invariant.rising c.self.invariant.index refl

pub overflow_add-self : goal.overflow_add-self
overflow_add-self c =
    let most : c.self.inside.plain + c.plain_count-more.result ≤ length c.push.new.self.items =
    waits_fit c.self.inside.waits.items c.push.new.self.items c.self.inside.index.items c.self.inside.plain c.plain_count-more.result c.self.inside.line c.args.w c.self.invariant (push_done c.push.result c.unwrap.result _ _ _ c.unwrap.ensures c.push.ensures.items) c.plain_count-more.ensures in
    omega (arith, c.push.new.self.ok)

pub invariant_of-self : goal.invariant_of-self
invariant_of-self c =
    waits_pushed c.self.inside.waits.items c.push.new.self.items c.self.inside.index.items c.add_entry.new.entries.items c.self.inside.plain c.plain_count-more.result c.self.inside.line c.line_with-line.result c.args.w c.entry_of-entry.result c.self.invariant
    (subst (λ (l : List Wait). IsRising wait_key (l ++ c.args.w ∷ [])) (sym (ap (λ (k : KeptWaits). k.waits) c.self.view_is)) c.requires.rising)
    (push_done c.push.result c.unwrap.result _ _ _ c.unwrap.ensures c.push.ensures.items) c.entry_of-entry.ensures c.add_entry.ensures.items c.plain_count-more.ensures c.line_with-line.ensures
