use Rattle.std.proofs.Common.{◌∷◌, ◌+◌, ◌-◌, ap, arith, get_or, length, set, sym, ◌∙◌}
use Rattle.std.specs.Prelude.{Option}
use Rattle.cf_base.specs.declared.ids.Rid.{Rid}
use Rattle.cf_model.specs.Store.{RecordedDone, Stored, latest}
use Rattle.cf_model.specs.Words.{part}
use Rattle.cf_remote.specs.Held.{grown}
use Rattle.cf_remote.proofs.Counted.{get_is}
use Rattle.cf_remote.proofs.Doing.{rid_is}
use Rattle.cf_remote.proofs.Indexes.{live_in}
use Rattle.cf_remote.proofs.Members.{has_stored}
use Rattle.cf_remote.proofs.Orders.{at_is}
use Rattle.cf_remote.proofs.ShelfChanges.{shelf_grown}
use Rattle.cf_remote.proofs.shelves.Shelf.grow.Goals as goal

pub overflow_sub-rid : goal.overflow_sub-rid
overflow_sub-rid c = (live_in c.self.inside.items.items c.args.rid c.self.invariant.indexed.is.counted (rw (← c.self.view_is) at c.requires.there)).0

pub index_mut-item-requires : goal.index_mut-item-requires
index_mut-item-requires c =
    let h = live_in c.self.inside.items.items c.args.rid c.self.invariant.indexed.is.counted (rw (← c.self.view_is) at c.requires.there) in
    omega (arith, h.0, h.1, c.self.inside.items.ok)

pub invariant_of-self-2 : goal.invariant_of-self-2
invariant_of-self-2 c =
    let items = c.self.inside.items.items in
    let h = live_in items c.args.rid c.self.invariant.indexed.is.counted (rw (← c.self.view_is) at c.requires.there) in
    shelf_grown items c.self.inside.by_name c.self.inside.live c.self.inside.held c.self.invariant c.args.rid (set items (c.args.rid.0 - 1) c.grow.new.self) c.args.keep c.args.bytes c.args.changed c.held_with-held.result
    (ap (λ (s : Stored). set items (c.args.rid.0 - 1) s) (c.in_ok-version.ensures.ok ∙ ap (grown c.args.keep c.args.bytes c.args.changed) c.index_mut-item.ensures.value)
    ∙ at_is items c.args.rid (grown c.args.keep c.args.bytes c.args.changed) c.index_mut-item.result.now c.self.invariant.indexed.is.counted h.0 h.1)
    (rw (← c.self.view_is) at (c.held_with-held.ensures c.args.bytes c.args.changed (ap length (sym c.as_slice.ensures))))
    (rw (← c.self.view_is) at c.requires.fits)

pub returns-clause-ok : goal.returns-clause-ok
returns-clause-ok c =
    let items = c.self.inside.items.items in
    let h = live_in items c.args.rid c.self.invariant.indexed.is.counted (rw (← c.self.view_is) at c.requires.there) in
    rw (← c.self.view_is) (ap (λ (s : Stored). set items (c.args.rid.0 - 1) s) (c.in_ok-version.ensures.ok ∙ ap (grown c.args.keep c.args.bytes c.args.changed) c.index_mut-item.ensures.value)
    ∙ at_is items c.args.rid (grown c.args.keep c.args.bytes c.args.changed) c.index_mut-item.result.now c.self.invariant.indexed.is.counted h.0 h.1)

pub returns-clause-version : goal.returns-clause-version
returns-clause-version c =
    let items = c.self.inside.items.items in
    let h = live_in items c.args.rid c.self.invariant.indexed.is.counted (rw (← c.self.view_is) at c.requires.there) in
    rw (← c.self.view_is) (c.in_ok-version.ensures.version ∙ ap (λ (s : Stored). latest s + 1) c.index_mut-item.ensures.value
    ∙ sym (ap (λ (o : Option Stored). part latest 0 o + 1) (get_is items c.args.rid c.index_mut-item.result.now c.self.invariant.indexed.is.counted h.0 h.1)))

pub returns-clause-recorded : goal.returns-clause-recorded
returns-clause-recorded c =
    let items = c.self.inside.items.items in
    let h = live_in items c.args.rid c.self.invariant.indexed.is.counted (rw (← c.self.view_is) at c.requires.there) in
    let there = has_stored items c.args.rid (get_or items (c.args.rid.0 - 1) c.index_mut-item.result.now) (get_is items c.args.rid c.index_mut-item.result.now c.self.invariant.indexed.is.counted h.0 h.1) in
    c.in_ok-version.ensures.recorded
    ∙ ap (λ (r : Rid). (c.args.token, RecordedDone r c.in_ok-version.version) ∷ c.args.tokens.now)
    (ap (λ (s : Stored). s.rid) c.index_mut-item.ensures.value ∙ rid_is (get_or items (c.args.rid.0 - 1) c.index_mut-item.result.now).rid c.args.rid.0 there.1)
