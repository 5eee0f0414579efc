use Rattle.std.proofs.Common.{◌∙◌, ◌++◌, ◌∷◌, ◌≤◌, [], List, ap, append-nil, false, length, subst, sym}
use Rattle.std.specs.Prelude.{filter}
use Rattle.std.specs.List.{filter_map}
use Rattle.std.proofs.lemmas.List.Elements.{All-nil, All-push}
use Rattle.cf_base.specs.declared.ids.Rid.{Rid}
use Rattle.cf_base.specs.declared.messages.Entry.{Entry}
use Rattle.cf_collections.specs.Split.{IsSplit, behind}
use Rattle.cf_remote.specs.Order.{PlaceIn, is_before, is_inside, told_at}
use Rattle.cf_remote.proofs.Insides.{behind_inside, rids_inside, split_inside, told_all, told_more}
use Rattle.cf_remote.proofs.Listings.{listing_told}
use Rattle.cf_remote.proofs.Places.{part_of, split}
use Rattle.cf_remote.proofs.by_name.listing.Goals as goal

pub from-left-requires : goal.from-left-requires
from-left-requires c = subst (λ (p : PlaceIn). IsSplit (is_before p) c.args.by_name.now) (sym c.of.ensures)
    (split c.args.items.now c.args.by_name.now c.requires.ordered (part_of c.args.items.now c.args.by_name.now c.requires.ordered c.requires.is) c.args.directory [] false)

pub loop-rid-init : goal.loop-rid-init
loop-rid-init c =
    let left = c.from-left.ensures ∙ ap (λ (p : PlaceIn). behind (is_before p) c.args.by_name.now) c.of.ensures in
    record {
      split = subst (λ (l : List Rid). IsSplit (is_inside c.args.items.now c.args.directory) l) (sym left) (split_inside c.args.items.now c.args.by_name.now c.requires.ordered c.requires.is c.args.directory);
      told = ap (λ (l : List Entry). l ++ filter_map (told_at c.args.items.now) (filter (is_inside c.args.items.now c.args.directory) c.from-left.result)) c.new-entries.ensures.items
          ∙ ap (λ (l : List Rid). filter_map (told_at c.args.items.now) (filter (is_inside c.args.items.now c.args.directory) l)) left
          ∙ ap (filter_map (told_at c.args.items.now)) (behind_inside c.args.items.now c.args.by_name.now c.requires.ordered c.requires.is c.args.directory);
      room = rw c.new-entries.ensures.items (All-nil (λ (e : Entry). length e.name ≤ 255));
    }

pub loop-rid-preserved : goal.loop-rid-preserved
loop-rid-preserved c = record {
  split = (subst (λ (l : List Rid). IsSplit (is_inside c.args.items.now c.args.directory) l) c.in-Some.ensures c.loop-rid.invariant.split).1;
  told = ap (λ (l : List Entry). l ++ filter_map (told_at c.args.items.now) (filter (is_inside c.args.items.now c.args.directory) c.next.new.self)) (c.in_ok-push.ensures.items ∙ (λ i. c.loop-rid.entries.items ++ c.in_ok-entry.ensures.told i ∷ []))
      ∙ told_more c.args.items.now c.args.directory c.loop-rid.entries.items c.in-Some.rid.now c.next.new.self c.in-Some-inside.item.now c.in-Some-inside.ensures
      ∙ ap (λ (l : List Rid). c.loop-rid.entries.items ++ filter_map (told_at c.args.items.now) (filter (is_inside c.args.items.now c.args.directory) l)) (sym c.in-Some.ensures)
      ∙ c.loop-rid.invariant.told;
  room = rw c.in_ok-push.ensures.items (All-push (λ (e : Entry). length e.name ≤ 255) c.loop-rid.entries.items c.in_ok-entry.field-0 c.loop-rid.invariant.room c.in_ok-entry.ensures.room);
}

pub returns-in_default-inside-clause-told : goal.returns-in_default-inside-clause-told
returns-in_default-inside-clause-told c =
    told_all c.args.items.now c.args.directory c.loop-rid.entries.items c.in-Some.rid.now c.next.new.self c.in_default-inside.ensures
    (subst (λ (l : List Rid). IsSplit (is_inside c.args.items.now c.args.directory) l) c.in-Some.ensures c.loop-rid.invariant.split)
    ∙ ap (λ (l : List Rid). c.loop-rid.entries.items ++ filter_map (told_at c.args.items.now) (filter (is_inside c.args.items.now c.args.directory) l)) (sym c.in-Some.ensures)
    ∙ c.loop-rid.invariant.told
    ∙ listing_told c.args.items.now c.args.by_name.now c.requires.ordered c.args.directory (filter (is_inside c.args.items.now c.args.directory) c.args.by_name.now) c.requires.is
    (rids_inside c.args.items.now c.args.by_name.now c.requires.ordered c.requires.is c.args.directory)

pub returns-clause-told : goal.returns-clause-told
returns-clause-told c =
    sym (ap (λ (l : List Rid). c.loop-rid.entries.items ++ filter_map (told_at c.args.items.now) (filter (is_inside c.args.items.now c.args.directory) l)) c.in_default.ensures ∙ append-nil c.loop-rid.entries.items)
    ∙ c.loop-rid.invariant.told
    ∙ listing_told c.args.items.now c.args.by_name.now c.requires.ordered c.args.directory (filter (is_inside c.args.items.now c.args.directory) c.args.by_name.now) c.requires.is
    (rids_inside c.args.items.now c.args.by_name.now c.requires.ordered c.requires.is c.args.directory)
