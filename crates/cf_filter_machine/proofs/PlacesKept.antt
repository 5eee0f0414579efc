-- A volume that is kept stays so where one of its items is changed in its place, or moves.
use Rattle.std.proofs.Common.{◌≡◌, ◌⊎◌, ⊎_elim, ℕ, ◌+◌, ◌<◌, ◌≤◌, Bool, true, false, ◌&&◌, cond, eqb, List, [], ◌∷◌, Some, None, refl, sym, ◌∙◌, ap, subst, arith}
use Rattle.std.proofs.lemmas.Bool.{ne_eqb}
use Rattle.std.proofs.lemmas.Bool.Decides.{nat_tests}
use Rattle.std.proofs.lemmas.Option.{none-some}
use Rattle.cf_base.specs.declared.ids.ItemId.{ItemId}
use Rattle.cf_base.specs.declared.ids.Usn.{Usn}
use Rattle.cf_filter_machine.proofs.ChangedItems.{changed_at, every_changed}
use Rattle.cf_filter_machine.proofs.ItemsKept.{IsWhole}
use Rattle.cf_filter_machine.specs.Keeping.{IsKept, IsKeptVolume}
use Rattle.cf_model.specs.Books.{Tombstone, access_of, anchor_of}
use Rattle.cf_model.specs.Changes.{next_number}
use Rattle.cf_model.specs.Effects.{changed}
use Rattle.cf_model.specs.Items.{Item, item_of}
use Rattle.cf_model.specs.Numbers.{above, is_no_usn, usn_after}
use Rattle.cf_model.specs.Soundness.{AllLater, AllSound}
use Rattle.cf_model.specs.State.{Volume}
use Rattle.cf_volume_points.specs.Holding.{FitsTable}
use Rattle.cf_filter_steps.specs.Good.{Every, IsSmall}
use Rattle.cf_table.specs.Reading.{IsStored}
use Rattle.cf_tree.specs.Trees.{AreOpen, IsTree}

-- lists

pub every_weaker : {A : Type 0} (P Q : A → Type 0) → ((x : A) → P x → Q x) → (xs : List A) → Every P xs → Every Q xs
every_weaker P Q f [] h = record {}
every_weaker P Q f (x ∷ xs) h = (f x h.0, every_weaker P Q f xs h.1)

pub all_whole : (items : List Item) → Every IsSmall items → Every IsKept items → Every (λ i. IsStored i.pin) items → Every IsWhole items
all_whole [] s k p = record {}
all_whole (i ∷ is) s k p = (record { small = s.0; kept = k.0; pin = p.0 }, all_whole is s.1 k.1 p.1)

pub all_small : (items : List Item) → Every IsWhole items → Every IsSmall items
all_small items h = every_weaker IsWhole IsSmall (λ i w. w.small) items h

pub all_kept : (items : List Item) → Every IsWhole items → Every IsKept items
all_kept items h = every_weaker IsWhole IsKept (λ i w. w.kept) items h

pub all_pins : (items : List Item) → Every IsWhole items → Every (λ i. IsStored i.pin) items
all_pins items h = every_weaker IsWhole (λ i. IsStored i.pin) (λ i w. w.pin) items h

-- numbers

pub still_above : (e p : ℕ) (n : Usn) → above (usn_after e p) n ≡ true → above (usn_after e (p + 1)) n ≡ true
still_above e p n h = grind (arith, nat_tests)

pub own_above : (e p : ℕ) → above (usn_after e (p + 1)) (usn_after e p) ≡ true
own_above e p = grind (arith, nat_tests)

pub new_number : (e p : ℕ) → is_no_usn (usn_after e p) ≡ false
new_number e p = ap (λ (b : Bool). eqb e 0 && b) (ne_eqb (p + 1) 0 (λ q. omega (arith, q))) ∙ neither (eqb e 0)
  where
    neither : (b : Bool) → (b && false) ≡ false
    neither true = refl
    neither false = refl

not_later : (e p : ℕ) (n : Usn) → above (usn_after e p) n ≡ true → above n (usn_after e p) ≡ false
not_later e p n h = grind (arith, nat_tests)

pub all_later : (e p : ℕ) (items : List Item) → Every (λ i. above (usn_after e p) i.number ≡ true) items → AllLater (usn_after e p) items
all_later e p [] h = record {}
all_later e p (i ∷ is) h = (not_later e p i.number h.0, all_later e p is h.1)

-- an item changed in its list

pub unchanged : (key : ItemId) (f : Item → Item) (items : List Item) → item_of items key ≡ None → changed key f items ≡ items
unchanged key f [] e = refl
unchanged key f (x ∷ xs) e = by (eqb x.id.0 key.0) e (unchanged key f xs)
  where
    by : (t : Bool) → cond t (Some x) (item_of xs key) ≡ None → (item_of xs key ≡ None → changed key f xs ≡ xs) → cond t (f x) x ∷ changed key f xs ≡ x ∷ xs
    by true q rest = absurd (none-some x (sym q))
    by false q rest = ap (λ (l : List Item). x ∷ l) (rest q)

-- what such a change leaves
pub record StaysOwn (n : Usn) (f : Item → Item) : Type 0 where
  pub id : (i : Item) → (f i).id ≡ i.id
  pub directory : (i : Item) → (f i).directory ≡ i.directory
  pub known : (i : Item) → i.populated ≡ true → (f i).populated ≡ true
  pub number : (i : Item) → ((f i).number ≡ i.number) ⊎ ((f i).number ≡ n)

-- the parts of a volume after a change that leaves the book
abbrev pub stepped : Volume → List Item → ItemId → Volume
stepped v items next = record v { items = items; next_item = next; place = v.place + 1 }

same_side : (a b : Bool) (x y : Item) → (cond a x y).directory ≡ b → x.directory ≡ y.directory → y.directory ≡ b
same_side true b x y e same = sym same ∙ e
same_side false b x y e same = e

pub graves_stay : (v : Volume) → IsKeptVolume v → Every (λ t. above (usn_after v.epoch (v.place + 1)) t.number ≡ true) v.book.tombstones
graves_stay v h =
    every_weaker (λ (t : Tombstone). above (usn_after v.epoch v.place) t.number ≡ true) (λ (t : Tombstone). above (usn_after v.epoch (v.place + 1)) t.number ≡ true) (λ t was. still_above v.epoch v.place t.number was) v.book.tombstones h.book.graves

pub kept_in_place : (v : Volume) (key : ItemId) (f : Item → Item) (next : ItemId) → StaysOwn (next_number v) f → v.next_item.0 ≤ next.0
    → IsTree (changed key f v.items) → AreOpen (changed key f v.items) → AllSound (changed key f v.items) → ((i : Item) → item_of v.items key ≡ Some i → IsWhole i → IsWhole (f i))
    → FitsTable (changed key f v.items) v.book → IsKeptVolume v → IsKeptVolume (stepped v (changed key f v.items) next)
kept_in_place v key f next own more tree open_then sound whole fits h = record {
  good = record {
    tree = tree;
    opened = open_then;
    sound = sound;
    small = all_small items wholes;
    later = all_later v.epoch (v.place + 1) items given;
    below = every_changed (λ i. i.id.0 < next.0) key f 1 v.items h.good.tree.order (λ i e lt. subst (λ (k : ItemId). k.0 < next.0) (sym (own.id i)) lt)
        (every_weaker (λ (i : Item). i.id.0 < v.next_item.0) (λ (i : Item). i.id.0 < next.0) (λ i lt. omega (arith, lt, more)) v.items h.good.below);
    few = fits.few;
    short = fits.short;
    pins = all_pins items wholes;
  };
  items = all_kept items wholes;
  given = given;
  book = record {
    anchors = λ id. still_above v.epoch v.place (anchor_of v.book id) (h.book.anchors id);
    accesses = accesses;
    fits = h.book.fits;
    graves = graves_stay v h;
    anchors_rise = h.book.anchors_rise;
    accesses_rise = h.book.accesses_rise;
  };
}
  where
    items : List Item
    items = changed key f v.items

    wholes : Every IsWhole items
    wholes = every_changed IsWhole key f 1 v.items h.good.tree.order whole (all_whole v.items h.good.small h.items h.good.pins)

    given : Every (λ i. above (usn_after v.epoch (v.place + 1)) i.number ≡ true) items
    given = every_changed (λ i. above (usn_after v.epoch (v.place + 1)) i.number ≡ true) key f 1 v.items h.good.tree.order
        (λ i e was. ⊎_elim (λ s. subst (λ (n : Usn). above (usn_after v.epoch (v.place + 1)) n ≡ true) (sym s) was)
        (λ s. subst (λ (n : Usn). above (usn_after v.epoch (v.place + 1)) n ≡ true) (sym s) (own_above v.epoch v.place)) (own.number i))
        (every_weaker (λ (i : Item). above (usn_after v.epoch v.place) i.number ≡ true) (λ (i : Item). above (usn_after v.epoch (v.place + 1)) i.number ≡ true) (λ i was. still_above v.epoch v.place i.number was) v.items h.given)

    accesses : (id : ItemId) (j : Item) → item_of items id ≡ Some j → j.directory ≡ true → access_of v.book id ≡ 0
    accesses id j e d =
        let a = changed_at key f v.items id j own.id e in
        h.book.accesses id a.0 a.1 (same_side (eqb a.0.id.0 key.0) true (f a.0) a.0 (ap (λ (x : Item). x.directory) (sym a.2) ∙ d) (own.directory a.0))
