use Rattle.std.proofs.Common.{◌∙◌, List, ap, false, inl, not, refl, subst, sym}
use Rattle.std.specs.Ordering.{is_lt}
use Rattle.cf_base.specs.declared.ids.Rid.{Rid}
use Rattle.cf_collections.specs.Split.{IsSplit}
use Rattle.cf_remote.specs.Order.{PlaceIn, against, gone_at, is_before, put_at, rids_of, without}
use Rattle.cf_remote.proofs.Counted.{none_is}
use Rattle.cf_remote.proofs.Entering.{both_gone, both_split, kept_gone, kept_set, kept_split, kept_there, left_split, own_gone}
use Rattle.cf_remote.proofs.Members.{has_stored}
use Rattle.cf_remote.proofs.Places.{part_of, split}
use Rattle.cf_remote.proofs.changes.enter.Goals as goal

pub insert_in-requires : goal.insert_in-requires
insert_in-requires c = subst (λ (p : PlaceIn). IsSplit (is_before p) c.args.by_name.now) (sym c.of-to.ensures) (split c.args.items.now c.args.by_name.now c.requires.index.ordered (part_of c.args.items.now c.args.by_name.now c.requires.index.ordered c.requires.index.is) c.args.parent c.args.name.now false)

pub remove-requires : goal.remove-requires
remove-requires c = kept_split c.args.items.now c.args.parent c.args.name.now (record { 0 = 0 }) (none_is c.args.items.now (record { 0 = 0 }) c.requires.index.is.counted (inl refl)) c.of-to.result c.of-to.ensures c.args.by_name.now c.insert_in.new.self c.in_ok-insert_in.ensures.ok (split c.args.items.now c.args.by_name.now c.requires.index.ordered (part_of c.args.items.now c.args.by_name.now c.requires.index.ordered c.requires.index.is) c.args.parent c.args.name.now false)

pub returns-in-Err-clause-err : goal.returns-in-Err-clause-err
returns-in-Err-clause-err c = c.remove.ensures ∙ kept_gone c.args.items.now c.args.parent c.args.name.now (record { 0 = 0 }) (none_is c.args.items.now (record { 0 = 0 }) c.requires.index.is.counted (inl refl)) c.of-to.result c.of-to.ensures c.args.by_name.now c.insert_in.new.self c.in_ok-insert_in.ensures.ok

pub remove-requires-2 : goal.remove-requires-2
remove-requires-2 c = subst (λ (p : PlaceIn). IsSplit (is_before p) c.insert_in.new.self) (sym (c.of.ensures ∙ (λ i. record { items = c.args.items.now; parent = c.parent.ensures i; name = c.name.ensures i; kept_before = not ((c.is_lt-kept_before.ensures ∙ ap is_lt c.compared.ensures) i) })))
    (subst (λ (l : List Rid). IsSplit (is_before (record { items = c.args.items.now; parent = c.args.item.now.parent; name = c.args.item.now.name; kept_before = (not (is_lt (against c.args.parent c.args.name.now c.args.item.now))) })) l) (sym (c.in_ok-insert_in.ensures.ok ∙ ap (λ (p : PlaceIn). put_at p (record { 0 = 0 }) c.args.by_name.now) c.of-to.ensures))
    (both_split c.args.items.now c.args.by_name.now c.requires.index.ordered c.requires.index.is c.args.item.now (has_stored c.args.items.now c.args.item.now.rid c.args.item.now c.requires.there).0 c.requires.live (not (is_lt (against c.args.parent c.args.name.now c.args.item.now))) c.args.parent c.args.name.now (record { 0 = 0 }) (none_is c.args.items.now (record { 0 = 0 }) c.requires.index.is.counted (inl refl)) refl))

pub replace_in-requires-clause-split : goal.replace_in-requires-clause-split
replace_in-requires-clause-split c = kept_split c.args.items.now c.args.parent c.args.name.now (record { 0 = 0 }) (none_is c.args.items.now (record { 0 = 0 }) c.requires.index.is.counted (inl refl)) c.of-to.result c.of-to.ensures (rids_of (without c.args.item.now.rid c.requires.index.ordered)) c.remove-2.new.self
    (c.remove-2.ensures ∙ ap (λ (p : PlaceIn). gone_at p c.insert_in.new.self) (c.of.ensures ∙ (λ i. record { items = c.args.items.now; parent = c.parent.ensures i; name = c.name.ensures i; kept_before = not ((c.is_lt-kept_before.ensures ∙ ap is_lt c.compared.ensures) i) }))
    ∙ ap (gone_at (record { items = c.args.items.now; parent = c.args.item.now.parent; name = c.args.item.now.name; kept_before = (not (is_lt (against c.args.parent c.args.name.now c.args.item.now))) })) (c.in_ok-insert_in.ensures.ok ∙ ap (λ (p : PlaceIn). put_at p (record { 0 = 0 }) c.args.by_name.now) c.of-to.ensures)
    ∙ both_gone c.args.items.now c.args.by_name.now c.requires.index.ordered c.requires.index.is c.args.item.now (has_stored c.args.items.now c.args.item.now.rid c.args.item.now c.requires.there).0 c.requires.live (not (is_lt (against c.args.parent c.args.name.now c.args.item.now))) c.args.parent c.args.name.now (record { 0 = 0 }) (none_is c.args.items.now (record { 0 = 0 }) c.requires.index.is.counted (inl refl)) refl
    ∙ ap (λ (p : PlaceIn). put_at p (record { 0 = 0 }) (rids_of (without c.args.item.now.rid c.requires.index.ordered))) (sym c.of-to.ensures))
    (left_split c.args.items.now c.args.by_name.now c.requires.index.ordered c.requires.index.is c.args.item.now (has_stored c.args.items.now c.args.item.now.rid c.args.item.now c.requires.there).0 c.requires.live (not (is_lt (against c.args.parent c.args.name.now c.args.item.now))) c.args.parent c.args.name.now (record { 0 = 0 }) (none_is c.args.items.now (record { 0 = 0 }) c.requires.index.is.counted (inl refl)))

pub replace_in-requires-clause-there : goal.replace_in-requires-clause-there
replace_in-requires-clause-there c = kept_there c.args.items.now c.args.parent c.args.name.now (record { 0 = 0 }) (none_is c.args.items.now (record { 0 = 0 }) c.requires.index.is.counted (inl refl)) c.of-to.result c.of-to.ensures (rids_of (without c.args.item.now.rid c.requires.index.ordered)) c.remove-2.new.self
    (c.remove-2.ensures ∙ ap (λ (p : PlaceIn). gone_at p c.insert_in.new.self) (c.of.ensures ∙ (λ i. record { items = c.args.items.now; parent = c.parent.ensures i; name = c.name.ensures i; kept_before = not ((c.is_lt-kept_before.ensures ∙ ap is_lt c.compared.ensures) i) }))
    ∙ ap (gone_at (record { items = c.args.items.now; parent = c.args.item.now.parent; name = c.args.item.now.name; kept_before = (not (is_lt (against c.args.parent c.args.name.now c.args.item.now))) })) (c.in_ok-insert_in.ensures.ok ∙ ap (λ (p : PlaceIn). put_at p (record { 0 = 0 }) c.args.by_name.now) c.of-to.ensures)
    ∙ both_gone c.args.items.now c.args.by_name.now c.requires.index.ordered c.requires.index.is c.args.item.now (has_stored c.args.items.now c.args.item.now.rid c.args.item.now c.requires.there).0 c.requires.live (not (is_lt (against c.args.parent c.args.name.now c.args.item.now))) c.args.parent c.args.name.now (record { 0 = 0 }) (none_is c.args.items.now (record { 0 = 0 }) c.requires.index.is.counted (inl refl)) refl
    ∙ ap (λ (p : PlaceIn). put_at p (record { 0 = 0 }) (rids_of (without c.args.item.now.rid c.requires.index.ordered))) (sym c.of-to.ensures))

pub returns-clause-ok : goal.returns-clause-ok
returns-clause-ok c = c.replace_in.ensures.items ∙ kept_set c.args.items.now c.args.parent c.args.name.now (record { 0 = 0 }) (none_is c.args.items.now (record { 0 = 0 }) c.requires.index.is.counted (inl refl)) c.of-to.result c.of-to.ensures c.rid-rid.result (rids_of (without c.args.item.now.rid c.requires.index.ordered)) c.remove-2.new.self
    (c.remove-2.ensures ∙ ap (λ (p : PlaceIn). gone_at p c.insert_in.new.self) (c.of.ensures ∙ (λ i. record { items = c.args.items.now; parent = c.parent.ensures i; name = c.name.ensures i; kept_before = not ((c.is_lt-kept_before.ensures ∙ ap is_lt c.compared.ensures) i) }))
    ∙ ap (gone_at (record { items = c.args.items.now; parent = c.args.item.now.parent; name = c.args.item.now.name; kept_before = (not (is_lt (against c.args.parent c.args.name.now c.args.item.now))) })) (c.in_ok-insert_in.ensures.ok ∙ ap (λ (p : PlaceIn). put_at p (record { 0 = 0 }) c.args.by_name.now) c.of-to.ensures)
    ∙ both_gone c.args.items.now c.args.by_name.now c.requires.index.ordered c.requires.index.is c.args.item.now (has_stored c.args.items.now c.args.item.now.rid c.args.item.now c.requires.there).0 c.requires.live (not (is_lt (against c.args.parent c.args.name.now c.args.item.now))) c.args.parent c.args.name.now (record { 0 = 0 }) (none_is c.args.items.now (record { 0 = 0 }) c.requires.index.is.counted (inl refl)) refl
    ∙ ap (λ (p : PlaceIn). put_at p (record { 0 = 0 }) (rids_of (without c.args.item.now.rid c.requires.index.ordered))) (sym c.of-to.ensures))
    ∙ (λ i. put_at (c.of-to.ensures i) (c.rid-rid.ensures i) (sym (own_gone c.args.items.now c.args.by_name.now c.requires.index.ordered c.requires.index.is c.args.item.now (has_stored c.args.items.now c.args.item.now.rid c.args.item.now c.requires.there).0 c.requires.live false) i))
