use Rattle.std.proofs.Common.{◌∙◌, ◌+◌, ◌++◌, ◌∷◌, [], List, ap, arith, false, inr, length, subst, sym}
use Rattle.cf_base.specs.declared.ids.Rid.{Rid}
use Rattle.cf_collections.specs.Split.{IsSplit, front}
use Rattle.cf_model.specs.Store.{Stored}
use Rattle.cf_remote.specs.Order.{IsIndexed, PlaceIn, is_before, place, placed, put_at}
use Rattle.cf_remote.proofs.Counted.{none_is}
use Rattle.cf_remote.proofs.Entering.{free_place, kept_gone, kept_split}
use Rattle.cf_remote.proofs.Indexes.{index_more}
use Rattle.cf_remote.proofs.Places.{part_of, split}
use Rattle.cf_remote.proofs.Splits.{put_is}
use Rattle.cf_remote.proofs.changes.add_item.Goals as goal

pub insert_in-requires : goal.insert_in-requires
insert_in-requires c = subst (λ (p : PlaceIn). IsSplit (is_before p) c.args.by_name.now) (sym (c.of-place.ensures ∙ (λ i. place ((c.deref.ensures.value ∙ c.in_ok-reserve.ensures.items) i) (c.parent.ensures i) (c.name.ensures i))))
    (split c.args.items.now.items c.args.by_name.now c.requires.index.ordered (part_of c.args.items.now.items c.args.by_name.now c.requires.index.ordered c.requires.index.is) c.args.item.parent c.args.item.name false)

pub remove-requires : goal.remove-requires
remove-requires c = kept_split c.args.items.now.items c.args.item.parent c.args.item.name c.rid-rid.result (none_is c.args.items.now.items c.rid-rid.result c.requires.index.is.counted (inr (omega (arith, c.requires.next, ap (λ (r : Rid). r.0) c.rid-rid.ensures))))
    c.of-place.result (c.of-place.ensures ∙ (λ i. place ((c.deref.ensures.value ∙ c.in_ok-reserve.ensures.items) i) (c.parent.ensures i) (c.name.ensures i)))
    c.args.by_name.now c.insert_in.new.self c.in_ok-insert_in.ensures.ok (split c.args.items.now.items c.args.by_name.now c.requires.index.ordered (part_of c.args.items.now.items c.args.by_name.now c.requires.index.ordered c.requires.index.is) c.args.item.parent c.args.item.name false)

pub returns-in-Err-clause-index : goal.returns-in-Err-clause-index
returns-in-Err-clause-index c =
    let same = c.remove.ensures ∙ kept_gone c.args.items.now.items c.args.item.parent c.args.item.name c.rid-rid.result (none_is c.args.items.now.items c.rid-rid.result c.requires.index.is.counted (inr (omega (arith, c.requires.next, ap (λ (r : Rid). r.0) c.rid-rid.ensures))))
    c.of-place.result (c.of-place.ensures ∙ (λ i. place ((c.deref.ensures.value ∙ c.in_ok-reserve.ensures.items) i) (c.parent.ensures i) (c.name.ensures i))) c.args.by_name.now c.insert_in.new.self c.in_ok-insert_in.ensures.ok in
    subst (λ (ss : List Stored). IsIndexed ss c.remove.new.self) (sym c.in_ok-reserve.ensures.items) (subst (λ (l : List Rid). IsIndexed c.args.items.now.items l) (sym same) c.requires.index)

pub returns-clause-index : goal.returns-clause-index
returns-clause-index c =
    let ordered = c.requires.index.ordered in
    let part = part_of c.args.items.now.items c.args.by_name.now ordered c.requires.index.is in
    let before = is_before (place c.args.items.now.items c.args.item.parent c.args.item.name) in
    let now = c.in_ok-insert_in.ensures.ok ∙ ap (λ (p : PlaceIn). put_at p c.rid-rid.result c.args.by_name.now) (c.of-place.ensures ∙ (λ i. place ((c.deref.ensures.value ∙ c.in_ok-reserve.ensures.items) i) (c.parent.ensures i) (c.name.ensures i))) ∙ put_is before c.rid-rid.result c.args.by_name.now in
    rw (c.push.ensures.items, c.unwrap.ensures, c.in_ok-reserve.ensures.items) (subst (λ (l : List Rid). IsIndexed (c.args.items.now.items ++ c.args.item ∷ []) l) (sym now) (record {
      ordered = placed c.args.item ordered;
      is = index_more c.args.items.now.items c.args.by_name.now ordered c.requires.index.is c.args.item (length (front before c.args.by_name.now)) c.rid-rid.result
          c.requires.next c.requires.live c.rid-rid.ensures c.requires.free (free_place c.args.items.now.items c.args.by_name.now ordered part c.args.item.parent c.args.item.name);
    }))
