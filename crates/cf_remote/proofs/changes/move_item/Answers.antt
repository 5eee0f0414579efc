use Rattle.std.proofs.Common.{◌∙◌, ◌∷◌, ◌-◌, ℕ, List, set, refl, sym, ap, subst}
use Rattle.cf_base.specs.declared.ids.Rid.{Rid}
use Rattle.cf_model.specs.Store.{RecordedDone, Stored, at_rid, latest, stored_at}
use Rattle.cf_model.specs.Words.{part}
use Rattle.cf_remote.specs.Order.{IsIndexed, gone_at, place, put_at}
use Rattle.cf_remote.proofs.Doing.{rid_is}
use Rattle.cf_remote.proofs.Entering.{moved_is}
use Rattle.cf_remote.proofs.Indexes.{live_in}
use Rattle.cf_remote.proofs.Members.{has_stored}
use Rattle.cf_remote.proofs.Orders.{at_is}
use Rattle.cf_remote.proofs.changes.move_item.Goals as goal

abbrev moved : Rid → List ℕ → ℕ → Stored → Stored
moved parent name changed s = record s { parent = parent; name = name; changed = changed }

pub enter-requires-clause-there : goal.enter-requires-clause-there
enter-requires-clause-there c =
    let there = c.in-Some.ensures.there ∙ ap (λ (ss : List Stored). stored_at ss c.args.rid) c.deref.ensures.value in
    ap (λ (ss : List Stored). stored_at ss c.in-Some.item.now.rid) c.deref-2.ensures.value
    ∙ ap (λ (r : Rid). stored_at c.args.items.now.items r) (rid_is c.in-Some.item.now.rid c.args.rid.0 (has_stored c.args.items.now.items c.args.rid c.in-Some.item.now (sym there)).1)
    ∙ sym there

pub overflow_sub-rid : goal.overflow_sub-rid
overflow_sub-rid c = (live_in c.args.items.now.items c.args.rid c.requires.index.is.counted c.requires.live).0

pub returns-clause-ok : goal.returns-clause-ok
returns-clause-ok c =
    let h = live_in c.args.items.now.items c.args.rid c.requires.index.is.counted c.requires.live in
    ap (λ (s : Stored). set c.args.items.now.items (c.args.rid.0 - 1) s) (c.place.ensures ∙ ap (moved c.args.parent c.args.name c.args.changed) c.index_mut-item.ensures.value)
    ∙ at_is c.args.items.now.items c.args.rid (moved c.args.parent c.args.name c.args.changed) c.index_mut-item.result.now c.requires.index.is.counted h.0 h.1

pub returns-clause-index : goal.returns-clause-index
returns-clause-index c =
    let there = c.in-Some.ensures.there ∙ ap (λ (ss : List Stored). stored_at ss c.args.rid) c.deref.ensures.value in
    let rid = rid_is c.in-Some.item.now.rid c.args.rid.0 (has_stored c.args.items.now.items c.args.rid c.in-Some.item.now (sym there)).1 in
    let entered = c.in_ok-enter.ensures.ok ∙ (λ i. put_at (place (c.deref-2.ensures.value i) c.args.parent (c.as_slice.ensures i)) (rid i) (gone_at (place (c.deref-2.ensures.value i) c.in-Some.item.now.parent c.in-Some.item.now.name) c.args.by_name.now)) in
    subst (λ (ss : List Stored). IsIndexed ss c.enter.new.by_name) (sym (returns-clause-ok c))
    (subst (λ (l : List Rid). IsIndexed (at_rid c.args.rid (moved c.args.parent c.args.name c.args.changed) c.args.items.now.items) l) (sym entered)
    (moved_is c.args.items.now.items c.args.by_name.now c.requires.index.ordered c.requires.index.is c.args.rid c.in-Some.item.now (moved c.args.parent c.args.name c.args.changed)
    c.args.parent c.args.name there c.requires.live (λ s. refl) (λ s. refl) (λ s. refl) (λ s. refl) c.requires.free))

pub returns-clause-recorded : goal.returns-clause-recorded
returns-clause-recorded c =
    let there = c.in-Some.ensures.there ∙ ap (λ (ss : List Stored). stored_at ss c.args.rid) c.deref.ensures.value in
    let rid = rid_is c.in-Some.item.now.rid c.args.rid.0 (has_stored c.args.items.now.items c.args.rid c.in-Some.item.now (sym there)).1 in
    c.in_ok-enter.ensures.recorded ∙ (λ i. (c.args.token, RecordedDone (rid i) (record { 0 = part latest 0 (there i) })) ∷ c.args.tokens.now)
