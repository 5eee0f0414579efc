use Rattle.std.proofs.Common.{◌+◌, ◌≤◌, ◌++◌, ◌∷◌, [], List, ap, arith, length, refl, subst, sym}
use Rattle.cf_model.specs.Requests.{Live}
use Rattle.cf_waits.proofs.AskChanges.{asks_fit, asks_pushed}
use Rattle.cf_waits.proofs.AskEnds.{ends_pushed}
use Rattle.cf_waits.proofs.Booked.{in_order, push_done}
use Rattle.cf_waits.specs.Books.{KeptAsks, ask_entry, is_list_ask, is_plain_ask}
use Rattle.cf_waits.specs.Rising.{IsRising, ask_key}
use Rattle.cf_waits.proofs.ask_books.AskBook.add.Goals as goal

pub add_entry-requires-clause-order : goal.add_entry-requires-clause-order
add_entry-requires-clause-order c = in_order ask_entry ask_key (λ a. refl) c.self.inside.asks.items c.self.inside.index.items c.self.inside.index.items c.self.invariant.rising c.self.invariant.index refl

pub overflow_add-self : goal.overflow_add-self
overflow_add-self c =
    let most : c.self.inside.plain + c.plain_count-plain.result ≤ length c.push.new.self.items =
    asks_fit is_plain_ask c.self.inside.asks.items c.push.new.self.items c.self.inside.plain c.plain_count-plain.result c.set_ticks.new.self c.self.invariant.count (push_done c.push.result c.unwrap.result _ _ _ c.unwrap.ensures c.push.ensures.items) c.plain_count-plain.ensures in
    omega (arith, c.push.new.self.ok)

pub overflow_add-self-2 : goal.overflow_add-self-2
overflow_add-self-2 c =
    let most : c.self.inside.lists + c.list_count-lists.result ≤ length c.push.new.self.items =
    asks_fit is_list_ask c.self.inside.asks.items c.push.new.self.items c.self.inside.lists c.list_count-lists.result c.set_ticks.new.self c.self.invariant.list_count (push_done c.push.result c.unwrap.result _ _ _ c.unwrap.ensures c.push.ensures.items) c.list_count-lists.ensures in
    omega (arith, c.push.new.self.ok)

pub invariant_of-self : goal.invariant_of-self
invariant_of-self c =
    asks_pushed c.self.inside.asks.items c.push.new.self.items c.self.inside.index.items c.add_entry.new.entries.items c.self.inside.plain c.plain_count-plain.result c.self.inside.lists c.list_count-lists.result c.self.inside.oldest c.self.inside.tick c.self.inside.end c.max-end.result c.args.a c.set_ticks.new.self c.entry_of-entry.result
    c.self.invariant (subst (λ (l : List Live). IsRising ask_key (l ++ c.args.a ∷ [])) (sym (ap (λ (k : KeptAsks). k.asks) c.self.view_is)) c.requires.rising) c.set_ticks.ensures
    (push_done c.push.result c.unwrap.result _ _ _ c.unwrap.ensures c.push.ensures.items) c.entry_of-entry.ensures c.add_entry.ensures.items c.plain_count-plain.ensures c.list_count-lists.ensures
    (ends_pushed c.self.inside.end c.block_end.result c.max-end.result c.self.inside.asks.items c.push.new.self.items c.set_ticks.new.self c.self.invariant.ends c.block_end.ensures c.max-end.ensures (push_done c.push.result c.unwrap.result _ _ _ c.unwrap.ensures c.push.ensures.items))
