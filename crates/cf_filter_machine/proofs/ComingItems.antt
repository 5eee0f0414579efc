-- A volume that is kept stays so where an item comes.
use Rattle.std.proofs.Common.{◌≡◌, ⊎_elim, ℕ, ◌+◌, ◌<◌, ◌≤◌, true, false, eqb, List, [], ◌∷◌, ◌++◌, Option, Some, None, refl, ◌∙◌, ap, arith}
use Rattle.std.specs.Prelude.{All, MatchOption}
use Rattle.std.proofs.lemmas.Bool.{ne_eqb}
use Rattle.std.proofs.lemmas.List.Elements.{All-cons, All-nil}
use Rattle.cf_base.specs.declared.ids.ItemId.{ItemId}
use Rattle.cf_filter_machine.proofs.ChangedItems.{every_last, last_at}
use Rattle.cf_filter_machine.proofs.ItemsKept.{IsWhole}
use Rattle.cf_filter_machine.proofs.PlacesKept.{all_kept, all_later, all_pins, all_small, all_whole, every_weaker, graves_stay, own_above, still_above, stepped}
use Rattle.cf_filter_machine.specs.Keeping.{IsKeptVolume}
use Rattle.cf_model.specs.Books.{access_of, anchor_of}
use Rattle.cf_model.specs.Changes.{next_number}
use Rattle.cf_model.specs.Items.{Item, item_of}
use Rattle.cf_model.specs.LookUp.{depth_at}
use Rattle.cf_model.specs.Numbers.{above, usn_after}
use Rattle.cf_model.specs.Soundness.{AllSound}
use Rattle.cf_model.specs.State.{Volume}
use Rattle.cf_volume_points.specs.Holding.{FitsTable}
use Rattle.cf_volume_points.specs.Standing.{IsBookOf}
use Rattle.cf_filter_steps.specs.Good.{Every}
use Rattle.cf_filter_steps.specs.Suiting.{IsFreePlace, IsOpenDirectory}
use Rattle.cf_tree.specs.Trees.{AreOpen, BeginWithRoot, IsTree, MayCome, MayHold}

pub all_below : (id : ItemId) (items : List Item) → Every (λ i. i.id.0 < id.0) items → All (λ i. i.id.0 < id.0) items
all_below id [] h = All-nil (λ (i : Item). i.id.0 < id.0)
all_below id (i ∷ is) h = All-cons (λ (j : Item). j.id.0 < id.0) i is h.0 (all_below id is h.1)

-- the next id is not that of the root
pub not_root : (next : ItemId) (items : List Item) → BeginWithRoot items → Every (λ i. i.id.0 < next.0) items → (eqb next.0 1) ≡ false
not_root next [] b h = absurd b
not_root next (r ∷ is) b h = let lt = h.0 in ne_eqb next.0 1 (λ e. omega (arith, e, lt, b.0))

pub past_root : (next : ItemId) (items : List Item) → BeginWithRoot items → Every (λ i. i.id.0 < next.0) items → 0 < next.0
past_root next [] b h = absurd b
past_root next (r ∷ is) b h = let lt = h.0 in omega (arith, lt)

holding : (items : List Item) (parent : ItemId) (o : Option Item) → item_of items parent ≡ o → MatchOption o ⊥ IsOpenDirectory → depth_at items parent < 32 → MayHold items parent
holding items parent None e h few = absurd h
holding items parent (Some p) e h few = record { above = p; there = e; directory = h.0; few = few }

pub may_come : (items : List Item) (item parent : ItemId) (name : List ℕ) → Every (λ i. i.id.0 < item.0) items → IsFreePlace items parent name → MayCome items item parent name
may_come items item parent name below free = record { last = all_below item items below; room = holding items parent (item_of items parent) refl free.1 free.2; free = free.3 }

pub kept_by_one : (v : Volume) (new : Item) (next : ItemId) → v.next_item.0 ≤ next.0 → new.id.0 < next.0 → new.number ≡ next_number v
    → IsTree (v.items ++ new ∷ []) → AreOpen (v.items ++ new ∷ []) → AllSound (v.items ++ new ∷ []) → IsWhole new
    → FitsTable (v.items ++ new ∷ []) v.book → IsBookOf v.items v.book → IsKeptVolume v → IsKeptVolume (stepped v (v.items ++ new ∷ []) next)
kept_by_one v new next more low number tree open_then sound whole fits book h = record {
  good = record {
    tree = tree;
    opened = open_then;
    sound = sound;
    small = all_small items wholes;
    later = all_later v.epoch (v.place + 1) items given;
    below = every_last (λ (i : Item). i.id.0 < next.0) v.items new
        (every_weaker (λ (i : Item). i.id.0 < v.next_item.0) (λ (i : Item). i.id.0 < next.0) (λ i lt. omega (arith, lt, more)) v.items h.good.below) low;
    few = fits.few;
    short = fits.short;
    pins = all_pins items wholes;
  };
  items = all_kept items wholes;
  given = given;
  book = record {
    anchors = λ id. still_above v.epoch v.place (anchor_of v.book id) (h.book.anchors id);
    accesses = accesses;
    fits = h.book.fits;
    graves = graves_stay v h;
    anchors_rise = h.book.anchors_rise;
    accesses_rise = h.book.accesses_rise;
  };
}
  where
    items : List Item
    items = v.items ++ new ∷ []

    wholes : Every IsWhole items
    wholes = every_last IsWhole v.items new (all_whole v.items h.good.small h.items h.good.pins) whole

    given : Every (λ i. above (usn_after v.epoch (v.place + 1)) i.number ≡ true) items
    given = every_last (λ i. above (usn_after v.epoch (v.place + 1)) i.number ≡ true) v.items new
        (every_weaker (λ (i : Item). above (usn_after v.epoch v.place) i.number ≡ true) (λ (i : Item). above (usn_after v.epoch (v.place + 1)) i.number ≡ true) (λ i was. still_above v.epoch v.place i.number was) v.items h.given)
        (ap (above (usn_after v.epoch (v.place + 1))) number ∙ own_above v.epoch v.place)

    accesses : (id : ItemId) (j : Item) → item_of items id ≡ Some j → j.directory ≡ true → access_of v.book id ≡ 0
    accesses id j e d = ⊎_elim (λ old. h.book.accesses id j old d) (λ last. (book id last.0).1) (last_at v.items new id j e)
