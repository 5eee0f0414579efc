use Rattle.std.proofs.Common.{◌∙◌, List, ap, refl, subst, sym}
use Rattle.std.specs.List.{AllByRecursion}
use Rattle.cf_ask_rule.specs.Fronts.{EndsBy}
use Rattle.cf_model.specs.Requests.{Live}
use Rattle.cf_waits.proofs.AskChanges.{asks_fewer, asks_kept, asks_removed, left_aged}
use Rattle.cf_waits.proofs.AskEnds.{ends_fewer}
use Rattle.cf_waits.proofs.Booked.{in_order}
use Rattle.cf_waits.specs.Books.{KeptAsks, ask_entry, is_list_ask, is_plain_ask}
use Rattle.cf_waits.specs.Rising.{ask_key}
use Rattle.cf_waits.proofs.ask_books.AskBook.remove.Goals as goal

pub invariant_of-self : goal.invariant_of-self
invariant_of-self c =
    asks_kept c.args.key c.self.inside.asks.items c.take_ask.new.asks.items c.self.inside.index.items c.self.inside.plain c.self.inside.lists c.self.inside.oldest c.self.inside.tick c.self.inside.end c.self.invariant (sym c.take_ask.ensures.found ∙ c.in_default.is) c.take_ask.ensures.left

pub returns-in_default-clause-asks : goal.returns-in_default-clause-asks
returns-in_default-clause-asks c = left_aged c.args.key c.self.inside.tick c.self.inside.asks.items c.take_ask.new.asks.items c.args.self.now.asks c.take_ask.ensures.left (ap (λ (k : KeptAsks). k.asks) c.self.view_is)

pub remove_entry-requires : goal.remove_entry-requires
remove_entry-requires c = in_order ask_entry ask_key (λ a. refl) c.self.inside.asks.items c.self.inside.index.items c.self.inside.index.items c.self.invariant.rising c.self.invariant.index refl

pub overflow_sub-self : goal.overflow_sub-self
overflow_sub-self c = asks_fewer is_plain_ask c.args.key c.self.inside.asks.items c.self.inside.plain c.plain_count.result c.in-Some.a c.self.invariant.rising c.self.invariant.count (sym c.take_ask.ensures.found ∙ c.in-Some.is) c.plain_count.ensures

pub overflow_sub-self-2 : goal.overflow_sub-self-2
overflow_sub-self-2 c = asks_fewer is_list_ask c.args.key c.self.inside.asks.items c.self.inside.lists c.list_count.result c.in-Some.a c.self.invariant.rising c.self.invariant.list_count (sym c.take_ask.ensures.found ∙ c.in-Some.is) c.list_count.ensures

pub invariant_of-self-2 : goal.invariant_of-self-2
invariant_of-self-2 c =
    asks_removed c.args.key c.self.inside.asks.items c.take_ask.new.asks.items c.self.inside.index.items c.remove_entry.new.entries.items c.self.inside.plain c.plain_count.result c.self.inside.lists c.list_count.result c.self.inside.oldest c.self.inside.tick c.self.inside.end c.end_left-self-inside.result c.in-Some.a c.entry_of.result
    c.self.invariant (sym c.take_ask.ensures.found ∙ c.in-Some.is) c.take_ask.ensures.left c.entry_of.ensures c.remove_entry.ensures.items c.plain_count.ensures c.list_count.ensures
    (subst (λ (l : List Live). AllByRecursion (EndsBy c.end_left-self-inside.result) l) c.deref.ensures.value (c.end_left-self-inside.ensures (subst (λ (l : List Live). AllByRecursion (EndsBy c.self.inside.end) l) (sym c.deref.ensures.value)
    (ends_fewer c.args.key c.self.inside.end c.self.inside.asks.items c.take_ask.new.asks.items c.self.invariant.ends c.take_ask.ensures.left))))

pub returns-clause-asks : goal.returns-clause-asks
returns-clause-asks c = left_aged c.args.key c.self.inside.tick c.self.inside.asks.items c.take_ask.new.asks.items c.args.self.now.asks c.take_ask.ensures.left (ap (λ (k : KeptAsks). k.asks) c.self.view_is)
