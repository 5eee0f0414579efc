-- A volume that is kept stays so where an item without a child is removed.
use Rattle.std.proofs.Common.{◌≡◌, ℕ, ◌+◌, ◌<◌, Bool, true, false, not, cond, eqb, max, List, [], ◌∷◌, Option, Some, None, refl, sym, ◌∙◌, ap, subst, arith}
use Rattle.std.specs.Prelude.{MatchOption, find, filter, ◌==◌}
use Rattle.std.specs.List.{list_any}
use Rattle.std.proofs.Math.Nat.{le-max_left}
use Rattle.std.proofs.lemmas.Bool.{eqb-false, eqb-true, not_from_false, or_parts}
use Rattle.std.proofs.lemmas.Bool.Decides.{nat_tests}
use Rattle.cf_base.specs.declared.answers.Access.{Access}
use Rattle.cf_base.specs.declared.answers.Anchor.{Anchor}
use Rattle.cf_base.specs.declared.changes.Change.TheVariants as change
use Rattle.cf_base.specs.declared.ids.ItemId.{ItemId}
use Rattle.cf_base.specs.declared.ids.Usn.{Usn}
use Rattle.cf_base.specs.declared.waits.WaitKind.{WaitKind}
use Rattle.cf_base.specs.declared.waits.WaitKind.TheVariants as wait_kind
use Rattle.cf_filter_machine.proofs.GoodSteps.{every_kept}
use Rattle.cf_filter_machine.proofs.PlacesKept.{all_later, every_weaker, new_number, still_above}
use Rattle.cf_filter_machine.proofs.RisingBooks.{AccessesRise, AnchorsRise, accesses_without, anchors_without}
use Rattle.cf_engine_queue.specs.Records.{IsKeepable}
use Rattle.cf_filter_machine.specs.Keeping.{IsKept, IsKeptVolume}
use Rattle.cf_model.specs.Books.{Book, access_of, anchor_of, book_after}
use Rattle.cf_model.specs.Changes.{next_number, put_change}
use Rattle.cf_model.specs.Effects.{without}
use Rattle.cf_model.specs.Items.{Item, item_of}
use Rattle.cf_model.specs.LookUp.{children}
use Rattle.cf_model.specs.Missing.{Wait}
use Rattle.cf_model.specs.Numbers.{above, no_usn, usn_after}
use Rattle.cf_model.specs.State.{Open, Volume}
use Rattle.cf_model.specs.Words.{part}
use Rattle.cf_model.proofs.SoundEffects.{effect_sound}
use Rattle.cf_volume_points.specs.Holding.{FitsTable}
use Rattle.cf_filter_steps.specs.Good.{Every, IsFileIn, IsOnFile, IsSmall}
use Rattle.cf_table.specs.Reading.{IsStored}
use Rattle.cf_tree.proofs.Depths.{some_of}
use Rattle.cf_tree.proofs.FoundLater.{find_kept, is_not, was_there}
use Rattle.cf_tree.proofs.TreesGrow.{shrunk}
use Rattle.cf_tree.proofs.Walks.{own_id}

-- what is found by item in a list without those of an item
found_gone : {A : Type 0} (g : A → ItemId) (key id : ItemId) (xs : List A) → find (λ a. (g a).0 == key.0) (filter (λ a. not ((g a).0 == id.0)) xs) ≡ cond (eqb key.0 id.0) None (find (λ a. (g a).0 == key.0) xs)
found_gone {A} g key id [] = by (eqb key.0 id.0)
  where
    by : (k : Bool) → ◌≡◌ {A = Option A} None (cond k None None)
    by true = refl
    by false = refl
found_gone {A} g key id (x ∷ xs) = by (eqb key.0 id.0) (eqb (g x).0 id.0) (eqb (g x).0 key.0) refl refl refl (found_gone g key id xs)
  where
    by : (k t u : Bool) → eqb key.0 id.0 ≡ k → eqb (g x).0 id.0 ≡ t → eqb (g x).0 key.0 ≡ u
        → find (λ a. (g a).0 == key.0) (filter (λ a. not ((g a).0 == id.0)) xs) ≡ cond k None (find (λ a. (g a).0 == key.0) xs)
        → find (λ a. (g a).0 == key.0) (cond (not t) (x ∷ filter (λ a. not ((g a).0 == id.0)) xs) (filter (λ a. not ((g a).0 == id.0)) xs)) ≡ cond k None (cond u (Some x) (find (λ a. (g a).0 == key.0) xs))
    by true true u p q r rest = rest
    by false true true p q r rest = absurd (eqb-false key.0 id.0 p (sym (eqb-true (g x).0 key.0 r) ∙ eqb-true (g x).0 id.0 q))
    by false true false p q r rest = rest
    by true false true p q r rest = absurd (eqb-false (g x).0 id.0 q (eqb-true (g x).0 key.0 r ∙ eqb-true key.0 id.0 p))
    by true false false p q r rest = ap (λ (b : Bool). cond b (Some x) (find (λ a. (g a).0 == key.0) (filter (λ a. not ((g a).0 == id.0)) xs))) r ∙ rest
    by false false true p q r rest = ap (λ (b : Bool). cond b (Some x) (find (λ a. (g a).0 == key.0) (filter (λ a. not ((g a).0 == id.0)) xs))) r
    by false false false p q r rest = ap (λ (b : Bool). cond b (Some x) (find (λ a. (g a).0 == key.0) (filter (λ a. not ((g a).0 == id.0)) xs))) r ∙ rest

above_none : (e p : ℕ) → above (usn_after e p) no_usn ≡ true
above_none e p = grind (arith, nat_tests)

anchor_gone : (e p : ℕ) (id key : ItemId) (b : Book) → above (usn_after e p) (anchor_of b key) ≡ true → above (usn_after e p) (anchor_of (book_after (change.Remove id) b) key) ≡ true
anchor_gone e p id key b h = ap (λ o. above (usn_after e p) (part (λ a. a.number) no_usn o)) (found_gone (λ a. a.item) key id b.anchors) ∙ by (eqb key.0 id.0)
  where
    by : (k : Bool) → above (usn_after e p) (part (λ a. a.number) no_usn (cond k None (find (λ a. a.item.0 == key.0) b.anchors))) ≡ true
    by true = above_none e p
    by false = h

access_gone : (id key : ItemId) (b : Book) → access_of b key ≡ 0 → access_of (book_after (change.Remove id) b) key ≡ 0
access_gone id key b h = ap (λ o. part (λ a. a.clock) 0 o) (found_gone (λ a. a.item) key id b.accesses) ∙ by (eqb key.0 id.0)
  where
    by : (k : Bool) → part (λ a. a.clock) 0 (cond k None (find (λ a. a.item.0 == key.0) b.accesses)) ≡ 0
    by true = refl
    by false = h

-- a book that fits its records and has the anchors and accesses of another, and whose tombstones were given before a number
pub record IsBeside (number : Usn) (b c : Book) : Type 0 where
  pub anchors : c.anchors ≡ b.anchors
  pub accesses : c.accesses ≡ b.accesses
  pub fits : IsKeepable c
  pub graves : Every (λ t. above number t.number ≡ true) c.tombstones

pub kept_without : (v : Volume) (id : ItemId) (b : Book) → (eqb id.0 1) ≡ false → children v.items id ≡ [] → IsBeside (usn_after v.epoch (v.place + 1)) (book_after (change.Remove id) v.book) b → FitsTable (without id v.items) b → IsKeptVolume v
    → IsKeptVolume (record (put_change (change.Remove id) v) { book = b })
kept_without v id b other bare beside fits h = record {
  good = record {
    tree = shrunk v.items id bare other h.good.tree;
    opened = λ key i p e up. h.good.opened key i p (was_there v.items key id i e) (was_there v.items i.parent id p up);
    sound = effect_sound v.items (change.Remove id) (next_number v) (new_number v.epoch v.place) h.good.later (record {}) h.good.sound;
    small = every_kept IsSmall (is_not id) v.items h.good.small;
    later = all_later v.epoch (v.place + 1) (without id v.items) given;
    below = every_kept (λ (i : Item). i.id.0 < max v.next_item.0 2) (is_not id) v.items
        (every_weaker (λ (i : Item). i.id.0 < v.next_item.0) (λ (i : Item). i.id.0 < max v.next_item.0 2) (λ i lt. let le = le-max_left v.next_item.0 2 in omega (arith, lt, le)) v.items h.good.below);
    few = fits.few;
    short = fits.short;
    pins = every_kept (λ (i : Item). IsStored i.pin) (is_not id) v.items h.good.pins;
  };
  items = every_kept IsKept (is_not id) v.items h.items;
  given = given;
  book = record {
    anchors = λ key. ap (λ (l : List Anchor). above (usn_after v.epoch (v.place + 1)) (part (λ a. a.number) no_usn (find (λ a. a.item.0 == key.0) l))) beside.anchors
        ∙ anchor_gone v.epoch (v.place + 1) id key v.book (still_above v.epoch v.place (anchor_of v.book key) (h.book.anchors key));
    accesses = λ key i e d. ap (λ (l : List Access). part (λ a. a.clock) 0 (find (λ a. a.item.0 == key.0) l)) beside.accesses ∙ access_gone id key v.book (h.book.accesses key i (was_there v.items key id i e) d);
    fits = beside.fits;
    graves = beside.graves;
    anchors_rise = subst AnchorsRise (sym beside.anchors) (anchors_without id v.book.anchors h.book.anchors_rise);
    accesses_rise = subst AccessesRise (sym beside.accesses) (accesses_without id v.book.accesses h.book.accesses_rise);
  };
}
  where
    given : Every (λ i. above (usn_after v.epoch (v.place + 1)) i.number ≡ true) (without id v.items)
    given = every_kept (λ (i : Item). above (usn_after v.epoch (v.place + 1)) i.number ≡ true) (is_not id) v.items
        (every_weaker (λ (i : Item). above (usn_after v.epoch v.place) i.number ≡ true) (λ (i : Item). above (usn_after v.epoch (v.place + 1)) i.number ≡ true) (λ i was. still_above v.epoch v.place i.number was) v.items h.given)

-- what handles and waits are on stays, as none is on the item

file_without : (items : List Item) (id key : ItemId) → (eqb key.0 id.0) ≡ false → IsFileIn items key → IsFileIn (without id items) key
file_without items id key other file =
    let i = some_of (item_of items key) (λ j. j.directory ≡ false) file in
    let stays : is_not id i.0 ≡ true = not_from_false _ (ap (λ (k : ItemId). eqb k.0 id.0) (sym (own_id items key i.0 i.1)) ∙ other) in
    subst (λ (o : Option Item). MatchOption o ⊥ (λ j. j.directory ≡ false)) (sym (find_kept (λ j. j.id.0 == key.0) (is_not id) items i.0 i.1 stays)) i.2

pub opened_without : (items : List Item) (id : ItemId) (os : List Open) → list_any (λ o. o.item.0 == id.0) os ≡ false → Every (λ o. IsFileIn items o.item) os → Every (λ o. IsFileIn (without id items) o.item) os
opened_without items id [] none h = record {}
opened_without items id (o ∷ os) none h =
    let parts = or_parts (eqb o.item.0 id.0) (list_any (λ x. x.item.0 == id.0) os) none in
    (file_without items id o.item parts.0 h.0, opened_without items id os parts.1 h.1)

on_without : (kind : WaitKind) (items : List Item) (id key : ItemId) → (eqb key.0 id.0) ≡ false → IsOnFile kind items key → IsOnFile kind (without id items) key
on_without wait_kind.Read items id key other h = file_without items id key other h
on_without wait_kind.Hydrate items id key other h = h
on_without wait_kind.Background items id key other h = h
on_without wait_kind.List items id key other h = h
on_without wait_kind.Dehydrate items id key other h = h

pub reads_without : (items : List Item) (id : ItemId) (ws : List Wait) → list_any (λ w. w.item.0 == id.0) ws ≡ false → Every (λ w. IsOnFile w.kind items w.item) ws → Every (λ w. IsOnFile w.kind (without id items) w.item) ws
reads_without items id [] none h = record {}
reads_without items id (w ∷ ws) none h =
    let parts = or_parts (eqb w.item.0 id.0) (list_any (λ x. x.item.0 == id.0) ws) none in
    (on_without w.kind items id w.item parts.0 h.0, reads_without items id ws parts.1 h.1)
