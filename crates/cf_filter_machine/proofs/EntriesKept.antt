-- A volume that is kept, as if the entries of a directory had come, stays so by each change of a list of them.
use Rattle.std.proofs.Common.{◌≡◌, ℕ, ◌<◌, Bool, true, false, cond, eqb, List, [], ◌∷◌, ◌++◌, refl, sym, ◌∙◌, ap, subst, arith}
use Rattle.std.specs.Prelude.{MatchOption, ◌==◌}
use Rattle.std.proofs.lemmas.Bool.{ne_eqb}
use Rattle.cf_base.specs.declared.answers.Access.{Access}
use Rattle.cf_base.specs.declared.answers.Anchor.{Anchor}
use Rattle.cf_base.specs.declared.answers.AuxRecord.{AuxRecord}
use Rattle.cf_base.specs.declared.changes.Change.{Change}
use Rattle.cf_base.specs.declared.changes.Change.TheVariants as change
use Rattle.cf_base.specs.declared.ids.ItemId.{ItemId}
use Rattle.cf_base.specs.declared.ids.Usn.{Usn}
use Rattle.cf_base.specs.declared.items.Kind.{Kind}
use Rattle.cf_base.specs.declared.items.Pin.{Pin}
use Rattle.cf_filter_machine.proofs.Ahead.{all_of, changed_both, changed_none, child_ahead, depth_ahead, each_ahead, fits_ahead, marked_ahead, none_behind, open_ahead, pin_ahead, twice_ahead}
use Rattle.cf_filter_machine.proofs.ChangedItems.{changed_at, every_changed}
use Rattle.cf_filter_machine.proofs.ChangesKept.{kept_change}
use Rattle.cf_filter_machine.proofs.ItemsKept.{IsWhole, populated_whole}
use Rattle.cf_filter_machine.proofs.OpenTrees.{open_changed}
use Rattle.cf_filter_machine.proofs.PlacesKept.{all_kept, all_later, all_pins, all_small, all_whole, new_number, still_above}
use Rattle.cf_filter_machine.proofs.PointSteps.{same_parts}
use Rattle.cf_filter_machine.proofs.Rebooked.{rebooked}
use Rattle.cf_filter_machine.proofs.RisingBooks.{AccessesRise, AnchorsRise}
use Rattle.cf_filter_machine.specs.Entering.{AreReadyEntries, EndsBy, ahead}
use Rattle.cf_filter_machine.specs.Keeping.{IsKeptVolume}
use Rattle.cf_model.specs.Books.{Book, access_of, anchor_of}
use Rattle.cf_model.specs.Changes.{next_number, put_change}
use Rattle.cf_model.specs.Effects.{changed, made, marked, populated}
use Rattle.cf_model.specs.Items.{Item, item_of, pin_of}
use Rattle.cf_model.specs.Numbers.{above}
use Rattle.cf_model.specs.Soundness.{Each}
use Rattle.cf_model.specs.State.{Volume}
use Rattle.cf_model.proofs.SoundEffects.{effect_sound}
use Rattle.cf_volume_points.specs.Holding.{FitsTable}
use Rattle.cf_volume_points.specs.Standing.{IsBookOf}
use Rattle.cf_filter_steps.proofs.LookUps.{of_found}
use Rattle.cf_filter_steps.specs.Good.{Every}
use Rattle.cf_filter_steps.specs.Listing.{HasRecordsBeside, IsEntry, IsFreeEntry, IsFrom}
use Rattle.cf_filter_steps.specs.Suiting.{IsFreePlace, IsOpenDirectory}
use Rattle.cf_tree.proofs.Depths.{some_of}
use Rattle.cf_tree.proofs.TreesStay.{in_place}
use Rattle.cf_tree.proofs.Walks.{own_id}

-- at the start

same_side : (b : Bool) (x : Item) → (cond b (populated x) x).directory ≡ true → x.directory ≡ true
same_side true x e = e
same_side false x e = e

pub kept_early : (dir : ItemId) (v : Volume) → Each dir (λ i. i.directory ≡ true) v.items → IsKeptVolume v → IsKeptVolume (ahead dir v)
kept_early dir v directory h = record {
  good = record {
    tree = in_place v.items dir populated (λ i. record { id = refl; parent = refl; name = refl; directory = refl }) h.good.tree;
    opened = open_changed v.items dir populated (λ i. refl) (λ i k. refl) (λ i p e up. h.good.opened dir i p e up) h.good.opened;
    sound = effect_sound v.items (change.Populated dir) (next_number v) (new_number v.epoch v.place) h.good.later directory h.good.sound;
    small = all_small items wholes;
    later = all_later v.epoch v.place items given;
    below = every_changed (λ i. i.id.0 < v.next_item.0) dir populated 1 v.items h.good.tree.order (λ i e lt. lt) h.good.below;
    few = fits.few;
    short = fits.short;
    pins = all_pins items wholes;
  };
  items = all_kept items wholes;
  given = given;
  book = record {
    anchors = h.book.anchors;
    accesses = λ id j e d. let a = changed_at dir populated v.items id j (λ i. refl) e in h.book.accesses id a.0 a.1 (same_side (eqb a.0.id.0 dir.0) a.0 (ap (λ (x : Item). x.directory) (sym a.2) ∙ d));
    fits = h.book.fits;
    graves = h.book.graves;
    anchors_rise = h.book.anchors_rise;
    accesses_rise = h.book.accesses_rise;
  };
}
  where
    items : List Item
    items = changed dir populated v.items

    wholes : Every IsWhole items
    wholes = every_changed IsWhole dir populated 1 v.items h.good.tree.order (λ i e w. populated_whole i w) (all_whole v.items h.good.small h.items h.good.pins)

    given : Every (λ i. above (next_number v) i.number ≡ true) items
    given = every_changed (λ i. above (next_number v) i.number ≡ true) dir populated 1 v.items h.good.tree.order (λ i e was. was) h.given

    fits : FitsTable items v.book
    fits = fits_ahead dir v.items v.book (record { few = h.good.few; short = h.good.short })

-- of each change

module _ (dir : ItemId) (v : Volume) (h : IsKeptVolume (ahead dir v)) (book : IsBookOf v.items v.book) where
  book_ahead : IsBookOf (changed dir populated v.items) v.book
  book_ahead id none = book id (none_behind dir v.items id none)

  free_ahead : (name : List ℕ) → IsFreeEntry v.items dir name → IsFreePlace (changed dir populated v.items) dir name
  free_ahead name free = (
    free.0,
    open_ahead dir v.items free.1,
    let few = free.2 in omega (arith, few, depth_ahead dir v.items dir),
    child_ahead dir v.items dir name free.3,
  )

  -- a new item is not the directory
  other : (item : ItemId) → item ≡ v.next_item → MatchOption (item_of v.items dir) ⊥ (λ p. p.directory ≡ true) → (eqb item.0 dir.0) ≡ false
  other item e there =
      let q = some_of (item_of (changed dir populated v.items) dir) IsOpenDirectory (open_ahead dir v.items there) in
      let low = of_found (λ i. i.id.0 < v.next_item.0) (λ j. j.id.0 == dir.0) (changed dir populated v.items) q.0 h.good.below q.1 in
      let own : dir.0 ≡ q.0.id.0 = ap (λ (k : ItemId). k.0) (own_id (changed dir populated v.items) dir q.0 q.1) in
      let next : item.0 ≡ v.next_item.0 = ap (λ (k : ItemId). k.0) e in
      ne_eqb item.0 dir.0 (λ same. omega (arith, same, low, own, next))

  fits_made : (c : Change) → FitsTable (put_change c v).items (put_change c v).book → FitsTable (changed dir populated (put_change c v).items) (put_change c v).book
  fits_made c fits = fits_ahead dir (put_change c v).items (put_change c v).book fits

  make_ahead : (item parent : ItemId) (name : List ℕ) (kind : Kind) (size : ℕ) (identity : List ℕ) → IsEntry dir (change.Make item parent name kind size identity) v
      → FitsTable (put_change (change.Make item parent name kind size identity) v).items v.book → IsKeptVolume (ahead dir (put_change (change.Make item parent name kind size identity) v))
  make_ahead item parent name kind size identity e fits =
      same_parts (put_change c (ahead dir v)) (ahead dir (put_change c v)) same refl refl refl refl
      (kept_change (ahead dir v) h c
      (record { fits = e.fits; needs = e.needs; plants = (e.lists.0, subst (λ (p : ItemId). IsFreePlace (changed dir populated v.items) p name) (sym e.lists.1) (free_ahead name e.lists.2)); lasts = e.lasts })
      book_ahead (subst (λ (l : List Item). FitsTable l v.book) same (fits_made c fits)))
    where
      c : Change
      c = change.Make item parent name kind size identity

      new : Item
      new = made item parent name kind size identity (pin_of v.items parent) (next_number v)

      same : changed dir populated (v.items ++ new ∷ []) ≡ changed dir populated v.items ++ made item parent name kind size identity (pin_of (changed dir populated v.items) parent) (next_number v) ∷ []
      same =
          changed_both dir populated v.items (new ∷ [])
          ∙ ap (λ (l : List Item). changed dir populated v.items ++ l) (changed_none dir populated new (other item e.lists.0 e.lists.2.1))
          ∙ ap (λ (p : Pin). changed dir populated v.items ++ made item parent name kind size identity p (next_number v) ∷ []) (sym (pin_ahead dir v.items parent))

  mark_ahead : (item : ItemId) (number : Usn) → IsEntry dir (change.Mark item number) v → FitsTable (put_change (change.Mark item number) v).items v.book → IsKeptVolume (ahead dir (put_change (change.Mark item number) v))
  mark_ahead item number e fits =
      same_parts (put_change (change.Mark item number) (ahead dir v)) (ahead dir (put_change (change.Mark item number) v)) (marked_ahead dir item v.items) refl refl refl refl
      (kept_change (ahead dir v) h (change.Mark item number)
      (record {
        fits = all_of (λ (i : Item). i.id.0 ≡ item.0 → Unit {0}) (λ i k. record {}) (changed dir populated v.items);
        needs = each_ahead dir (λ i. i.placeholder ≡ true) item v.items (λ i k. k) e.needs;
        plants = record {};
        lasts = record {};
      })
      book_ahead (subst (λ (l : List Item). FitsTable l v.book) (marked_ahead dir item v.items) (fits_made (change.Mark item number) fits)))

  -- the directory's own change, seen ahead of it, does nothing
  come_ahead : Each dir (λ i. i.directory ≡ true) v.items → FitsTable (put_change (change.Populated dir) v).items v.book → IsKeptVolume (put_change (change.Populated dir) (ahead dir v))
  come_ahead directory fits =
      kept_change (ahead dir v) h (change.Populated dir)
      (record {
        fits = all_of (λ (i : Item). i.id.0 ≡ dir.0 → Unit {0}) (λ i k. record {}) (changed dir populated v.items);
        needs = each_ahead dir (λ i. i.directory ≡ true) dir v.items (λ i k. k) directory;
        plants = record {};
        lasts = record {};
      })
      book_ahead (fits_made (change.Populated dir) fits)

  pub kept_come : Each dir (λ i. i.directory ≡ true) v.items → FitsTable (put_change (change.Populated dir) v).items v.book → IsKeptVolume (put_change (change.Populated dir) v)
  kept_come directory fits =
      same_parts (put_change (change.Populated dir) (ahead dir v)) (put_change (change.Populated dir) v) (sym (twice_ahead dir v.items)) refl refl refl refl (come_ahead directory fits)

  populated_ahead : (item : ItemId) → item ≡ dir → IsEntry dir (change.Populated item) v → FitsTable (put_change (change.Populated item) v).items v.book → IsKeptVolume (ahead dir (put_change (change.Populated item) v))
  populated_ahead item is e fits =
      subst (λ (k : ItemId). IsKeptVolume (ahead dir (put_change (change.Populated k) v))) (sym is)
      (same_parts (put_change (change.Populated dir) (ahead dir v)) (ahead dir (put_change (change.Populated dir) v)) refl refl refl refl refl
      (come_ahead (subst (λ (k : ItemId). Each k (λ i. i.directory ≡ true) v.items) is e.needs) (subst (λ (k : ItemId). FitsTable (put_change (change.Populated k) v).items v.book) is fits)))

  pub kept_entry : (c : Change) → IsEntry dir c v → FitsTable (put_change c v).items (put_change c v).book → IsKeptVolume (ahead dir (put_change c v))
  kept_entry (change.Make item parent name kind size identity) e fits = make_ahead item parent name kind size identity e fits
  kept_entry (change.Remove item) e fits = absurd e.lists
  kept_entry (change.Move item parent name) e fits = absurd e.lists
  kept_entry (change.Write item at bytes) e fits = absurd e.lists
  kept_entry (change.Size item size) e fits = absurd e.lists
  kept_entry (change.Filled item start bytes) e fits = absurd e.lists
  kept_entry (change.Validated item start len) e fits = absurd e.lists
  kept_entry (change.Emptied item start len) e fits = absurd e.lists
  kept_entry (change.SetPin item pin) e fits = absurd e.lists
  kept_entry (change.Mark item number) e fits = mark_ahead item number e fits
  kept_entry (change.Clear item) e fits = absurd e.lists
  kept_entry (change.Convert item identity) e fits = absurd e.lists
  kept_entry (change.Revert item) e fits = absurd e.lists
  kept_entry (change.Rebase item identity len at) e fits = absurd e.lists
  kept_entry (change.Take item identity size) e fits = absurd e.lists
  kept_entry (change.Copy item from parent name) e fits = absurd e.lists
  kept_entry (change.Populated item) e fits = populated_ahead item e.lists e fits
  kept_entry (change.Keep item on) e fits = absurd e.lists

-- The directory of a list is one from the start: each change before the last leaves whether it is.

each_before : (P : Item → Type 0) (id : ItemId) (xs ys : List Item) → Each id P (xs ++ ys) → Each id P xs
each_before P id [] ys h = record {}
each_before P id (x ∷ xs) ys h = (h.0, each_before P id xs ys h.1)

each_unmarked : (id key : ItemId) (xs : List Item) → Each id (λ i. i.directory ≡ true) (changed key marked xs) → Each id (λ i. i.directory ≡ true) xs
each_unmarked id key [] h = record {}
each_unmarked id key (x ∷ xs) h = (by (eqb x.id.0 key.0) h.0, each_unmarked id key xs h.1)
  where
    by : (t : Bool) → (eqb (cond t (marked x) x).id.0 id.0 ≡ true → (cond t (marked x) x).directory ≡ true) → eqb x.id.0 id.0 ≡ true → x.directory ≡ true
    by true f = f
    by false f = f

directory_before : (dir : ItemId) (c : Change) (v : Volume) → IsEntry dir c v → Each dir (λ i. i.directory ≡ true) (put_change c v).items → Each dir (λ i. i.directory ≡ true) v.items
directory_before dir (change.Make item parent name kind size identity) v e d = each_before (λ i. i.directory ≡ true) dir v.items (made item parent name kind size identity (pin_of v.items parent) (next_number v) ∷ []) d
directory_before dir (change.Remove item) v e d = absurd e.lists
directory_before dir (change.Move item parent name) v e d = absurd e.lists
directory_before dir (change.Write item at bytes) v e d = absurd e.lists
directory_before dir (change.Size item size) v e d = absurd e.lists
directory_before dir (change.Filled item start bytes) v e d = absurd e.lists
directory_before dir (change.Validated item start len) v e d = absurd e.lists
directory_before dir (change.Emptied item start len) v e d = absurd e.lists
directory_before dir (change.SetPin item pin) v e d = absurd e.lists
directory_before dir (change.Mark item number) v e d = each_unmarked dir item v.items d
directory_before dir (change.Clear item) v e d = absurd e.lists
directory_before dir (change.Convert item identity) v e d = absurd e.lists
directory_before dir (change.Revert item) v e d = absurd e.lists
directory_before dir (change.Rebase item identity len at) v e d = absurd e.lists
directory_before dir (change.Take item identity size) v e d = absurd e.lists
directory_before dir (change.Copy item from parent name) v e d = absurd e.lists
directory_before dir (change.Populated item) v e d = subst (λ (k : ItemId). Each k (λ i. i.directory ≡ true) v.items) e.lists e.needs
directory_before dir (change.Keep item on) v e d = absurd e.lists

pub directory_first : (dir : ItemId) (cs : List Change) (v : Volume) → EndsBy dir cs → AreReadyEntries dir cs v → Each dir (λ i. i.directory ≡ true) v.items
directory_first dir [] v ends h = absurd ends
directory_first dir (c ∷ []) v ends h = subst (λ (x : Change). IsEntry dir x v → Each dir (λ i. i.directory ≡ true) v.items) (sym ends) (λ (e : IsEntry dir (change.Populated dir) v). e.needs) h.0.entry
directory_first dir (c ∷ d ∷ cs) v ends h = directory_before dir c v h.0.entry (directory_first dir (d ∷ cs) (put_change c v) ends h.1)

-- another book beside

from_next : (c : Change) (v : Volume) → IsFrom (next_number v) (next_number (put_change c v))
from_next c v m h = still_above v.epoch v.place m h

-- records beside stay so after a change that leaves the book
pub later_beside : (c : Change) (v : Volume) (records : List AuxRecord) (b : Book) → HasRecordsBeside (next_number v) v.book records b → HasRecordsBeside (next_number (put_change c v)) v.book records b
later_beside c v records b h = record {
  told = h.told;
  anchors = h.anchors;
  clock = h.clock;
  accesses = h.accesses;
  fits = h.fits;
  graves = λ n from. h.graves n (λ m below. from m (from_next c v m below));
}

pub book_beside : (v : Volume) (records : List AuxRecord) (b : Book) → HasRecordsBeside (next_number v) v.book records b → FitsTable v.items b → IsKeptVolume v → IsKeptVolume (record v { book = b })
book_beside v records b beside fits h = rebooked v b fits.short (record {
  anchors = λ id. subst (λ (l : List Anchor). above (next_number v) (anchor_of (record b { anchors = l }) id) ≡ true) (sym beside.anchors) (h.book.anchors id);
  accesses = λ id i e d. ap (λ (l : List Access). access_of (record b { accesses = l }) id) beside.accesses ∙ h.book.accesses id i e d;
  fits = beside.fits h.book.fits;
  graves = beside.graves (next_number v) (λ m below. below) h.book.graves;
  anchors_rise = subst AnchorsRise (sym beside.anchors) h.book.anchors_rise;
  accesses_rise = subst AccessesRise (sym beside.accesses) h.book.accesses_rise;
}) h
