-- Changes that suit in turn, as the volume looks at room for them.
use Rattle.std.proofs.Common.{◌≡◌, ℕ, ◌+◌, ◌<◌, Bool, true, false, not, cond, eqb, max, List, [], ◌∷◌, ◌++◌, Option, Some, None, refl, sym, ap, subst, arith, append-nil}
use Rattle.std.proofs.Math.Nat.{le-max_left, le-max_right}
use Rattle.std.proofs.lemmas.Bool.{true≢false}
use Rattle.cf_base.specs.declared.changes.Change.{Change}
use Rattle.cf_base.specs.declared.changes.Change.TheVariants as change
use Rattle.cf_base.specs.declared.ids.ItemId.{ItemId}
use Rattle.cf_disk.specs.Disk.{State}
use Rattle.cf_filter_machine.proofs.ChangedItems.{every_last}
use Rattle.cf_filter_machine.proofs.ComingItems.{all_below}
use Rattle.cf_filter_machine.proofs.PlacesKept.{every_weaker}
use Rattle.cf_filter_machine.specs.Entering.{is_listed}
use Rattle.cf_filter_machine.specs.Held.{Held}
use Rattle.cf_filter_machine.specs.Sensing.{sense}
use Rattle.cf_model.specs.Books.{Book}
use Rattle.cf_model.specs.Changes.{next_number, put_change}
use Rattle.cf_model.specs.Effects.{changed, converted, copied, copies, got, kept, left_out, made, marked, moved, pinned, populated, rebased, reverted, sized, took, unmarked, validated_in, wrote}
use Rattle.cf_model.specs.Items.{Item, item_of, pin_of}
use Rattle.cf_model.specs.State.{Volume}
use Rattle.cf_volume_points.specs.At.{At}
use Rattle.cf_volume_points.specs.Keeping.{FitsBook}
use Rattle.cf_filter_steps.specs.Answering.{Reads}
use Rattle.cf_filter_steps.specs.Good.{Every}
use Rattle.cf_filter_steps.specs.Readings.{room_of}
use Rattle.cf_filter_steps.specs.Suiting.{FitsTable, Plants, Suiting, SuitsAll}
use Rattle.cf_volume.specs.RoomLeft.{FitInTurn, FitsAmong, HasRoomFor}
use Rattle.cf_volume_changes.specs.declared.room.changes.Room.{Room}

-- the ids stay below the next one

below_changed : (n : ℕ) (key : ItemId) (f : Item → Item) (items : List Item) → ((i : Item) → (f i).id ≡ i.id) → Every (λ i. i.id.0 < n) items → Every (λ i. i.id.0 < n) (changed key f items)
below_changed n key f [] own h = record {}
below_changed n key f (x ∷ xs) own h = (by (eqb x.id.0 key.0), below_changed n key f xs own h.1)
  where
    by : (t : Bool) → (cond t (f x) x).id.0 < n
    by true = subst (λ (k : ItemId). k.0 < n) (sym (own x)) h.0
    by false = h.0

module _ (v : Volume) (h : Every (λ i. i.id.0 < v.next_item.0) v.items) where
  wider : (n : ℕ) → Every (λ i. i.id.0 < max v.next_item.0 n) v.items
  wider n = every_weaker (λ (i : Item). i.id.0 < v.next_item.0) (λ (i : Item). i.id.0 < max v.next_item.0 n) (λ i lt. let le = le-max_left v.next_item.0 n in omega (arith, lt, le)) v.items h

  own : (id : ItemId) → id.0 < max v.next_item.0 (id.0 + 1)
  own id = let le = le-max_right v.next_item.0 (id.0 + 1) in omega (arith, le)

  copied_below : (item parent : ItemId) (name : List ℕ) (o : Option Item) → Every (λ i. i.id.0 < max v.next_item.0 (item.0 + 1)) (v.items ++ copies item parent name (pin_of v.items parent) (next_number v) o)
  copied_below item parent name None = subst (Every (λ i. i.id.0 < max v.next_item.0 (item.0 + 1))) (sym (append-nil v.items)) (wider (item.0 + 1))
  copied_below item parent name (Some i) = every_last (λ i. i.id.0 < max v.next_item.0 (item.0 + 1)) v.items (copied item parent name (pin_of v.items parent) (next_number v) i) (wider (item.0 + 1)) (own item)

  pub below_put : (c : Change) → Plants c v.items v.next_item → Every (λ i. i.id.0 < (put_change c v).next_item.0) (put_change c v).items
  below_put (change.Make item parent name kind size identity) p = every_last (λ i. i.id.0 < max v.next_item.0 (item.0 + 1)) v.items (made item parent name kind size identity (pin_of v.items parent) (next_number v)) (wider (item.0 + 1)) (own item)
  below_put (change.Remove item) p = absurd p
  below_put (change.Move item parent name) p = below_changed (max v.next_item.0 2) item (moved parent name (pin_of v.items parent) (next_number v)) v.items (λ i. refl) (wider 2)
  below_put (change.Write item at bytes) p = below_changed (max v.next_item.0 2) item (wrote at bytes (next_number v)) v.items (λ i. refl) (wider 2)
  below_put (change.Size item size) p = below_changed (max v.next_item.0 2) item (sized size (next_number v)) v.items (λ i. refl) (wider 2)
  below_put (change.Filled item start bytes) p = below_changed (max v.next_item.0 2) item (got start bytes) v.items (λ i. refl) (wider 2)
  below_put (change.Validated item start len) p = below_changed (max v.next_item.0 2) item (validated_in start len) v.items (λ i. refl) (wider 2)
  below_put (change.Emptied item start len) p = below_changed (max v.next_item.0 2) item (left_out start len) v.items (λ i. refl) (wider 2)
  below_put (change.SetPin item pin) p = below_changed (max v.next_item.0 2) item (pinned pin) v.items (λ i. refl) (wider 2)
  below_put (change.Mark item number) p = below_changed (max v.next_item.0 2) item (marked) v.items (λ i. refl) (wider 2)
  below_put (change.Clear item) p = below_changed (max v.next_item.0 2) item (unmarked) v.items (λ i. refl) (wider 2)
  below_put (change.Convert item identity) p = below_changed (max v.next_item.0 2) item (converted identity (next_number v)) v.items (λ i. refl) (wider 2)
  below_put (change.Revert item) p = below_changed (max v.next_item.0 2) item (reverted (next_number v)) v.items (λ i. refl) (wider 2)
  below_put (change.Rebase item identity len at) p = below_changed (max v.next_item.0 2) item (rebased identity len at) v.items (λ i. refl) (wider 2)
  below_put (change.Take item identity size) p = below_changed (max v.next_item.0 2) item (took identity size (next_number v)) v.items (λ i. refl) (wider 2)
  below_put (change.Copy item from parent name) p = copied_below item parent name (item_of v.items from)
  below_put (change.Populated item) p = below_changed (max v.next_item.0 2) item (populated) v.items (λ i. refl) (wider 2)
  below_put (change.Keep item on) p = below_changed (max v.next_item.0 2) item (kept on) v.items (λ i. refl) (wider 2)

  pub below_listed : (c : Change) → is_listed c ≡ true → Every (λ i. i.id.0 < (put_change c v).next_item.0) (put_change c v).items
  below_listed (change.Make item parent name kind size identity) e = every_last (λ i. i.id.0 < max v.next_item.0 (item.0 + 1)) v.items (made item parent name kind size identity (pin_of v.items parent) (next_number v)) (wider (item.0 + 1)) (own item)
  below_listed (change.Remove item) e = absurd (true≢false (sym e))
  below_listed (change.Move item parent name) e = absurd (true≢false (sym e))
  below_listed (change.Write item at bytes) e = absurd (true≢false (sym e))
  below_listed (change.Size item size) e = absurd (true≢false (sym e))
  below_listed (change.Filled item start bytes) e = absurd (true≢false (sym e))
  below_listed (change.Validated item start len) e = absurd (true≢false (sym e))
  below_listed (change.Emptied item start len) e = absurd (true≢false (sym e))
  below_listed (change.SetPin item pin) e = absurd (true≢false (sym e))
  below_listed (change.Mark item number) e = below_changed (max v.next_item.0 2) item (marked) v.items (λ i. refl) (wider 2)
  below_listed (change.Clear item) e = absurd (true≢false (sym e))
  below_listed (change.Convert item identity) e = absurd (true≢false (sym e))
  below_listed (change.Revert item) e = absurd (true≢false (sym e))
  below_listed (change.Rebase item identity len at) e = absurd (true≢false (sym e))
  below_listed (change.Take item identity size) e = absurd (true≢false (sym e))
  below_listed (change.Copy item from parent name) e = absurd (true≢false (sym e))
  below_listed (change.Populated item) e = below_changed (max v.next_item.0 2) item (populated) v.items (λ i. refl) (wider 2)
  below_listed (change.Keep item on) e = absurd (true≢false (sym e))

  pub fits_among : (c : Change) → Plants c v.items v.next_item → FitsTable c v.book v.items → FitsAmong c v.book v.items
  fits_among (change.Make item parent name kind size identity) p f = (all_below item v.items (subst (λ (k : ItemId). Every (λ i. i.id.0 < k.0) v.items) (sym p.0) h), f.0, f.1, f.2)
  fits_among (change.Remove item) p f = absurd p
  fits_among (change.Move item parent name) p f = f
  fits_among (change.Write item at bytes) p f = f
  fits_among (change.Size item size) p f = f
  fits_among (change.Filled item start bytes) p f = f
  fits_among (change.Validated item start len) p f = f
  fits_among (change.Emptied item start len) p f = f
  fits_among (change.SetPin item pin) p f = f
  fits_among (change.Mark item number) p f = f
  fits_among (change.Clear item) p f = f
  fits_among (change.Convert item identity) p f = f
  fits_among (change.Revert item) p f = f
  fits_among (change.Rebase item identity len at) p f = f
  fits_among (change.Take item identity size) p f = f
  fits_among (change.Copy item from parent name) p f = (all_below item v.items (subst (λ (k : ItemId). Every (λ i. i.id.0 < k.0) v.items) (sym p.0) h), f.0, f.1)
  fits_among (change.Populated item) p f = f
  fits_among (change.Keep item on) p f = f

pub fits_book : (c : Change) (items : List Item) (next : ItemId) (b : Book) → Plants c items next → FitsBook c b
fits_book (change.Make item parent name kind size identity) items next b p = record {}
fits_book (change.Remove item) items next b p = absurd p
fits_book (change.Move item parent name) items next b p = record {}
fits_book (change.Write item at bytes) items next b p = record {}
fits_book (change.Size item size) items next b p = record {}
fits_book (change.Filled item start bytes) items next b p = record {}
fits_book (change.Validated item start len) items next b p = record {}
fits_book (change.Emptied item start len) items next b p = record {}
fits_book (change.SetPin item pin) items next b p = record {}
fits_book (change.Mark item number) items next b p = record {}
fits_book (change.Clear item) items next b p = record {}
fits_book (change.Convert item identity) items next b p = record {}
fits_book (change.Revert item) items next b p = record {}
fits_book (change.Rebase item identity len at) items next b p = record {}
fits_book (change.Take item identity size) items next b p = record {}
fits_book (change.Copy item from parent name) items next b p = record {}
fits_book (change.Populated item) items next b p = record {}
fits_book (change.Keep item on) items next b p = record {}

pub fit_in_turn : (cs : List Change) (v : Volume) → Every (λ i. i.id.0 < v.next_item.0) v.items → SuitsAll cs v → FitInTurn cs v
fit_in_turn [] v below h = record {}
fit_in_turn (c ∷ cs) v below h = (fits_among v below c h.0.plants h.0.fits, fits_book c v.items v.next_item v.book h.0.plants, fit_in_turn cs (put_change c v) (below_put v below c h.0.plants) h.1)

pub turned : (a b : Bool) → a ≡ not b → not a ≡ b
turned a true e = ap not e
turned a false e = ap not e

pub room_read : {D : Type 0} (state : D → State) (cs : List Change) (x : Held D) (r : Room) → ((v : Volume) → At (state x.disk) x.known v → FitInTurn cs v → HasRoomFor cs v r)
    → Reads (sense state) (Suiting cs) (room_of cs) x (record { no_numbers = not r.places; no_table = not r.table; no_blocks = not r.blocks })
room_read state cs x r told = record {
  is = λ s h p.
      let k = told s.volume h.volume (fit_in_turn cs s.volume h.good.volume.below p) in
      λ j. record { no_numbers = turned _ _ k.places j; no_table = turned _ _ k.table j; no_blocks = turned _ _ k.blocks j };
}
