use Rattle.std.proofs.Common.{◌∙◌, ◌-◌, ℕ, List, false, set, length, refl, sym, ap, subst, arith}
use Rattle.cf_model.specs.Store.{Stored}
use Rattle.cf_remote.specs.Order.{IsIndex, IsIndexed, without}
use Rattle.cf_remote.proofs.Indexes.{index_dead, live_in}
use Rattle.cf_remote.proofs.Orders.{at_is}
use Rattle.cf_remote.proofs.changes.end_item.Goals as goal

abbrev ended : ℕ → Stored → Stored
ended changed s = record s { live = false; changed = changed }

pub overflow_sub-rid : goal.overflow_sub-rid
overflow_sub-rid c = (live_in c.args.items.now.items c.args.rid c.requires.index.is.counted c.requires.live).0

pub index_mut-item-requires : goal.index_mut-item-requires
index_mut-item-requires c = let h = live_in c.args.items.now.items c.args.rid c.requires.index.is.counted c.requires.live in omega (arith, h.0, h.1, ap length c.deref.ensures.value)

pub returns-clause-ends : goal.returns-clause-ends
returns-clause-ends c =
    let h = live_in c.args.items.now.items c.args.rid c.requires.index.is.counted c.requires.live in
    ap (λ (s : Stored). set c.args.items.now.items (c.args.rid.0 - 1) s) (c.end.ensures ∙ ap (ended c.args.changed) c.index_mut-item.ensures.value)
    ∙ at_is c.args.items.now.items c.args.rid (ended c.args.changed) c.index_mut-item.result.now c.requires.index.is.counted h.0 h.1

pub returns-clause-index : goal.returns-clause-index
returns-clause-index c = subst (λ (ss : List Stored). IsIndexed ss c.leave.new.by_name) (sym (returns-clause-ends c)) (record {
  ordered = without c.args.rid c.requires.index.ordered;
  is = index_dead c.args.items.now.items c.args.by_name.now c.requires.index.ordered c.requires.index.is c.args.rid (ended c.args.changed) c.leave.new.by_name
      (λ s. refl) (λ s. refl) (c.leave.ensures c.requires.index.ordered (subst (λ (ss : List Stored). IsIndex ss c.args.by_name.now c.requires.index.ordered) (sym c.deref.ensures.value) c.requires.index.is));
})
