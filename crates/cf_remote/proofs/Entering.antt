-- The index while an item of it gets another place.
use Rattle.std.proofs.Common.{◌≡◌, ◌<◌, ℕ, Bool, true, false, List, [], ◌∷◌, ◌++◌, length, inl, inr, not, refl, sym, ap, subst, ◌∙◌, arith}
use Rattle.std.specs.Prelude.{Some, None}
use Rattle.std.specs.List.{list_any}
use Rattle.std.specs.declared.cmp.Ordering.{Ordering}
use Rattle.std.specs.declared.cmp.Ordering.TheVariants.{Less, Equal, Greater}
use Rattle.std.specs.Ordering.{is_lt, ordering_reverse}
use Rattle.std.proofs.lemmas.Cmp.{alike_right, tied_itself}
use Rattle.cf_base.specs.declared.ids.Rid.{Rid}
use Rattle.cf_collections.specs.Split.{IsSplit, behind, front, rest}
use Rattle.cf_model.specs.Store.{Stored, at_rid, stored_at}
use Rattle.cf_model.specs.Words.{says}
use Rattle.cf_remote.specs.Order.{Has, IsAt, IsFree, IsGap, IsIndex, IsIndexed, IsPart, PlaceIn, Rises, against, comes, comes_first, gone_at, is_before, place, put_at, rids_of, without}
use Rattle.cf_remote.proofs.Listings.{lt_from}
use Rattle.cf_remote.proofs.Members.{all_has, has_stored}
use Rattle.cf_remote.proofs.Indexes.{index_moved}
use Rattle.cf_remote.proofs.Orders.{free_gap, left_at, live_from, part_left}
use Rattle.cf_remote.proofs.Places.{at_or_gap, before_is, lower, part_of, place_in, split}
use Rattle.cf_remote.proofs.Placing.{comes_total}
use Rattle.cf_remote.proofs.Splits.{AreLower, IsHigher, behind_put, gone_is, higher_gone, higher_split, lower_gone, lower_split, put_gone, put_is, put_set, put_split}
use Rattle.cf_remote.proofs.Taken.{none_at, takes}

pub free_place : (items : List Stored) (index : List Rid) (ordered : List Stored) (is : IsPart items index ordered) (parent : Rid) (name : List ℕ) → IsFree parent name ordered → IsGap parent name ordered (place_in items index ordered is parent name false)
free_place items index ordered is parent name free = elim (at_or_gap items index ordered is parent name false) [
  | inl at ↦ absurd (free_gap parent name ordered (place_in items index ordered is parent name false) free at)
  | inr gap ↦ gap
]

-- a place that is kept, told by what calls gave

module _ (items : List Stored) (parent : Rid) (name : List ℕ) (kept : Rid) (none : stored_at items kept ≡ None) (p : PlaceIn) (same : p ≡ place items parent name) where
  not_before : is_before p kept ≡ false
  not_before = ap (λ (q : PlaceIn). is_before q kept) same ∙ ap (comes_first parent name false) none

  pub kept_split : (rids now : List Rid) → now ≡ put_at p kept rids → IsSplit (is_before (place items parent name)) rids → IsSplit (is_before p) now
  kept_split rids now e s = subst (λ (l : List Rid). IsSplit (is_before p) l) (sym e) (put_split (is_before p) kept not_before rids (subst (λ (q : PlaceIn). IsSplit (is_before q) rids) (sym same) s))

  pub kept_gone : (rids now : List Rid) → now ≡ put_at p kept rids → gone_at p now ≡ rids
  kept_gone rids now e = ap (gone_at p) e ∙ put_gone (is_before p) kept not_before rids

  pub kept_set : (rid : Rid) (rids now : List Rid) → now ≡ put_at p kept rids → front (is_before p) now ++ rid ∷ rest (behind (is_before p) now) ≡ put_at p rid rids
  kept_set rid rids now e = ap (λ (l : List Rid). front (is_before p) l ++ rid ∷ rest (behind (is_before p) l)) e ∙ put_set (is_before p) kept not_before rid rids

  pub kept_there : (rids now : List Rid) → now ≡ put_at p kept rids → 0 < length (behind (is_before p) now)
  kept_there rids now e = omega (arith, ap (λ (l : List Rid). length l) (ap (behind (is_before p)) e ∙ behind_put (is_before p) kept not_before rids))

-- an item of the index, and its place there

module _ (items : List Stored) (index : List Rid) (ordered : List Stored) (is : IsIndex items index ordered) (s : Stored) (has : Has items s) (live : s.live ≡ true) (before : Bool) where
  abbrev own : PlaceIn
  own = record { items = items; parent = s.parent; name = s.name; kept_before = before }

  here : Has ordered s
  here = is.order.complete s has live

  part : IsPart items index ordered
  part = part_of items index ordered is

  at_own : IsAt s.parent s.name ordered (place_in items index ordered part s.parent s.name before)
  at_own = elim (at_or_gap items index ordered part s.parent s.name before) [
    | inl at ↦ at
    | inr gap ↦ absurd (none_at s.parent s.name ordered (place_in items index ordered part s.parent s.name before) s gap here (tied_itself comes_total s))
  ]

  pub own_split : IsSplit (is_before own) index
  own_split = split items index ordered part s.parent s.name before

  pub own_gone : gone_at own index ≡ rids_of (without s.rid ordered)
  own_gone = gone_is (is_before own) index ∙ left_at items index ordered s (place_in items index ordered part s.parent s.name before) is has live at_own

  -- a place that is kept beside it

  module _ (parent : Rid) (name : List ℕ) (kept : Rid) (none : stored_at items kept ≡ None) where
    abbrev to : PlaceIn
    to = place items parent name

    abbrev there : Stored
    there = record { rid = parent; parent = parent; name = name; directory = false; live = false; versions = []; least = 0; changed = 0 }

    to_is : (t : Stored) → Has ordered t → is_before to t.rid ≡ lower parent name t
    to_is t h = before_is items index ordered part parent name false t h

    own_is : (t : Stored) → Has ordered t → is_before own t.rid ≡ lower s.parent s.name t
    own_is t h = before_is items index ordered part s.parent s.name before t h

    own_kept : is_before own kept ≡ before
    own_kept = ap (comes_first s.parent s.name before) none

    to_split : IsSplit (is_before to) index
    to_split = split items index ordered part parent name false

    -- where the place is not behind that of the item

    lower_one : is_lt (against parent name s) ≡ false → (t : Stored) → lower parent name t ≡ true → lower s.parent s.name t ≡ true
    lower_one h t l = by (against parent name s) refl h where
      less : against parent name t ≡ Less
      less = lt_from (against parent name t) l

      by : (o : Ordering) → against parent name s ≡ o → is_lt o ≡ false → lower s.parent s.name t ≡ true
      by Less e h = let z : true ≡ false = h in cc
      by Equal e h = ap is_lt (alike_right comes_total s there t e ∙ less)
      by Greater e h = ap is_lt (comes_total.trans t there s less (comes_total.antisymm there s ∙ ap ordering_reverse e))

    are_lower : is_lt (against parent name s) ≡ false → (ss : List Stored) → ((t : Stored) → Has ss t → Has ordered t) → AreLower (is_before own) (is_before to) (rids_of ss)
    are_lower h [] k = tt
    are_lower h (t ∷ ts) k = ((λ e. own_is t (k t (inl refl)) ∙ lower_one h t (sym (to_is t (k t (inl refl))) ∙ e)), are_lower h ts (λ u l. k u (inr l)))

    -- where it is

    higher_one : is_lt (against parent name s) ≡ true → (t : Stored) → comes t s ≡ Less → lower parent name t ≡ true
    higher_one h t l = ap is_lt (comes_total.trans t s there l (lt_from (against parent name s) h))

    is_higher : is_lt (against parent name s) ≡ true → (ss : List Stored) → Rises ss → Has ss s → ((t : Stored) → Has ss t → Has ordered t) → IsHigher (is_before own) (is_before to) (rids_of ss)
    is_higher h [] r k l = k
    is_higher h (t ∷ ts) r (inl e) l = (
      to_is t (l t (inl refl)) ∙ ap (λ (u : Stored). lower parent name u) (sym e) ∙ h,
      λ o. absurd (let z : false ≡ true = sym (ap is_lt (ap (λ (u : Stored). comes u s) (sym e) ∙ tied_itself comes_total s)) ∙ sym (own_is t (l t (inl refl))) ∙ o in cc),
    )
    is_higher h (t ∷ ts) r (inr k) l = (
      to_is t (l t (inl refl)) ∙ higher_one h t (all_has (λ u. comes t u ≡ Less) ts r.0 s k),
      λ o. is_higher h ts r.1 k (λ u m. l u (inr m)),
    )

    -- in both

    in_rids : (P : List Rid → Type 0) → P (rids_of ordered) → P index
    in_rids P h = subst P (sym is.rids) h

    lower_index : is_lt (against parent name s) ≡ false → AreLower (is_before own) (is_before to) index
    lower_index h = in_rids (AreLower (is_before own) (is_before to)) (are_lower h ordered (λ t k. k))

    higher_index : is_lt (against parent name s) ≡ true → IsHigher (is_before own) (is_before to) index
    higher_index h = in_rids (IsHigher (is_before own) (is_before to)) (is_higher h ordered is.order.rises here (λ t k. k))

    pub both_split : before ≡ not (is_lt (against parent name s)) → IsSplit (is_before own) (put_at to kept index)
    both_split e = by (is_lt (against parent name s)) refl e where
      by : (b : Bool) → is_lt (against parent name s) ≡ b → before ≡ not b → IsSplit (is_before own) (put_at to kept index)
      by true h e = higher_split (is_before own) (is_before to) kept (own_kept ∙ e) index own_split (higher_index h)
      by false h e = lower_split (is_before own) (is_before to) kept (own_kept ∙ e) index own_split (lower_index h)

    pub both_gone : before ≡ not (is_lt (against parent name s)) → gone_at own (put_at to kept index) ≡ put_at to kept (rids_of (without s.rid ordered))
    both_gone e = by (is_lt (against parent name s)) refl e ∙ ap (put_at to kept) own_gone where
      by : (b : Bool) → is_lt (against parent name s) ≡ b → before ≡ not b → gone_at own (put_at to kept index) ≡ put_at to kept (gone_at own index)
      by true h e = higher_gone (is_before own) (is_before to) kept (own_kept ∙ e) index (higher_index h)
      by false h e = lower_gone (is_before own) (is_before to) kept (own_kept ∙ e) index to_split (lower_index h)

    pub left_split : IsSplit (is_before to) (rids_of (without s.rid ordered))
    left_split = split items (rids_of (without s.rid ordered)) (without s.rid ordered) (part_left items index ordered s.rid (rids_of (without s.rid ordered)) is refl) parent name false

-- an item of a rid leaves the index
pub left_is : (items : List Stored) (index : List Rid) (ordered : List Stored) → IsIndex items index ordered → (rid : Rid) (s : Stored) (parent : Rid) (name : List ℕ) → Some s ≡ stored_at items rid
    → says (λ x. x.live) (stored_at items rid) ≡ true → parent ≡ s.parent → name ≡ s.name → gone_at (place items parent name) index ≡ rids_of (without rid ordered)
left_is items index ordered is rid s parent name there live p n =
    let has = has_stored items rid s (sym there) in
    (λ i. gone_at (place items (p i) (n i)) index)
    ∙ own_gone items index ordered is s has.0 (live_from (stored_at items rid) s there live) false
    ∙ ap (λ (k : ℕ). rids_of (without (record { 0 = k }) ordered)) has.1

-- an item of the index stands at its new place there
pub moved_is : (items : List Stored) (index : List Rid) (ordered : List Stored) → IsIndex items index ordered → (rid : Rid) (s : Stored) (f : Stored → Stored) (parent : Rid) (name : List ℕ)
    → Some s ≡ stored_at items rid → says (λ x. x.live) (stored_at items rid) ≡ true
    → ((x : Stored) → (f x).parent ≡ parent) → ((x : Stored) → (f x).name ≡ name) → ((x : Stored) → (f x).live ≡ x.live) → ((x : Stored) → (f x).rid ≡ x.rid)
    → list_any (takes parent name rid) items ≡ false
    → IsIndexed (at_rid rid f items) (put_at (place items parent name) rid (gone_at (place items s.parent s.name) index))
moved_is items index ordered is rid s f parent name there live parents names lives rids none =
    let left : List Rid = gone_at (place items s.parent s.name) index in
    let gone : left ≡ rids_of (without rid ordered) = left_is items index ordered is rid s s.parent s.name there live refl refl in
    subst (IsIndexed (at_rid rid f items)) (sym (put_is (is_before (place items parent name)) rid left))
    (index_moved items index ordered is rid f parent name left (length (front (is_before (place items parent name)) left)) live parents names lives rids none gone
    (λ part free. free_place items left (without rid ordered) part parent name free))
