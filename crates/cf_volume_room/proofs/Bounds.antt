-- A change uses no more blocks than it puts bytes into, where the items stand in order.
use Rattle.std.proofs.Common.{◌≡◌, ◌≤◌, ◌<◌, ◌+◌, not, ℕ, Bool, true, false, cond, List, [], ◌∷◌, ◌++◌, length, refl, sym, ap, arith}
use Rattle.std.specs.Prelude.{Option, Some, None, sum_by, ◌==◌}
use Rattle.std.proofs.lemmas.Bool.{eqb-true}
use Rattle.std.proofs.lemmas.List.Sums.{sum_by-append, sum_by-cons}
use Rattle.cf_base.specs.declared.changes.Change.{Change}
use Rattle.cf_base.specs.declared.changes.Change.TheVariants as change
use Rattle.cf_base.specs.declared.ids.ItemId.{ItemId}
use Rattle.cf_base.specs.declared.ids.Usn.{Usn}
use Rattle.cf_base.specs.declared.items.Pin.{Pin}
use Rattle.cf_base.specs.declared.items.Pin.TheVariants as pin
use Rattle.cf_volume_room.proofs.Blocks.{held_after, none_here}
use Rattle.cf_model.specs.Blocks.{blocks_held, blocks_used, held_of, puts_into}
use Rattle.cf_model.specs.Effects.{changed, copied, copies, effect, made, size_made, without}
use Rattle.cf_model.specs.Items.{Item, item_of, pin_of}
use Rattle.cf_model.specs.Words.{part}
use Rattle.cf_table.specs.Applied.{item_effect}
use Rattle.cf_volume_blocks.specs.Bytes.{puts_in}
use Rattle.cf_volume_room.specs.Rising.{AreRising}

-- they do by what says so of the first item and of the others
pub rising_of : (P : ℕ → List Item → Type 0) → ((low : ℕ) (i : Item) (is : List Item) → P low (i ∷ is) → (low ≤ i.id.0) × P (i.id.0 + 1) is) → (low : ℕ) (items : List Item) → P low items → AreRising low items
rising_of P says low [] h = record {}
rising_of P says low (i ∷ is) h = let x = says low i is h in (x.0, rising_of P says (i.id.0 + 1) is x.1)

abbrev used : Item → ℕ
used i = blocks_held i.held

-- sums

-- items above a number have none with it
apart : (key : ItemId) (f : Item → Item) (low : ℕ) (items : List Item) → key.0 < low → AreRising low items → changed key f items ≡ items
apart key f low [] lt r = refl
apart key f low (x ∷ xs) lt r = let le : low ≤ x.id.0 = r.0 in by (x.id.0 == key.0) refl (apart key f (x.id.0 + 1) xs (omega (arith, le, lt)) r.1)
  where
    by : (t : Bool) → (x.id.0 == key.0) ≡ t → changed key f xs ≡ xs → cond t (f x) x ∷ changed key f xs ≡ x ∷ xs
    by true e rest = let at : x.id.0 ≡ key.0 = eqb-true x.id.0 key.0 e in let le : low ≤ x.id.0 = r.0 in absurd (omega (arith, at, le, lt))
    by false e rest = ap (λ (is : List Item). x ∷ is) rest

-- the item of a number becomes greater by so many at most
sum_changed : (key : ItemId) (f : Item → Item) (more low : ℕ) (items : List Item) → AreRising low items → ((i : Item) → item_of items key ≡ Some i → used (f i) ≤ used i + more) → sum_by used (changed key f items) ≤ sum_by used items + more
sum_changed key f more low [] r few = omega arith
sum_changed key f more low (x ∷ xs) r few = by (x.id.0 == key.0) refl few (λ h. sum_changed key f more (x.id.0 + 1) xs r.1 h)
  where
    whole : sum_by used (x ∷ xs) ≡ used x + sum_by used xs
    whole = sum_by-cons used x xs

    by : (t : Bool) → (x.id.0 == key.0) ≡ t → ((i : Item) → cond t (Some x) (item_of xs key) ≡ Some i → used (f i) ≤ used i + more) → (((i : Item) → item_of xs key ≡ Some i → used (f i) ≤ used i + more) → sum_by used (changed key f xs) ≤ sum_by used xs + more) → sum_by used (cond t (f x) x ∷ changed key f xs) ≤ sum_by used (x ∷ xs) + more
    by true e h later =
        let at : x.id.0 ≡ key.0 = eqb-true x.id.0 key.0 e in
        let rest : sum_by used (changed key f xs) ≡ sum_by used xs = ap (λ (is : List Item). sum_by used is) (apart key f (x.id.0 + 1) xs (omega (arith, at)) r.1) in
        let first : used (f x) ≤ used x + more = h x refl in
        let new : sum_by used (f x ∷ changed key f xs) ≡ used (f x) + sum_by used (changed key f xs) = sum_by-cons used (f x) (changed key f xs) in
        omega (arith, rest, first, new, whole)
    by false e h later =
        let rest : sum_by used (changed key f xs) ≤ sum_by used xs + more = later h in
        let new : sum_by used (x ∷ changed key f xs) ≡ used x + sum_by used (changed key f xs) = sum_by-cons used x (changed key f xs) in
        omega (arith, rest, new, whole)

sum_without : (key : ItemId) (items : List Item) → sum_by used (without key items) ≤ sum_by used items
sum_without key [] = omega arith
sum_without key (x ∷ xs) = by (x.id.0 == key.0) (sum_without key xs)
  where
    whole : sum_by used (x ∷ xs) ≡ used x + sum_by used xs
    whole = sum_by-cons used x xs

    by : (t : Bool) → sum_by used (without key xs) ≤ sum_by used xs → sum_by used (cond (not t) (x ∷ without key xs) (without key xs)) ≤ sum_by used (x ∷ xs)
    by true rest = omega (arith, rest, whole)
    by false rest = let new : sum_by used (x ∷ without key xs) ≡ used x + sum_by used (without key xs) = sum_by-cons used x (without key xs) in omega (arith, rest, new, whole)

-- one change

-- of an item that stays
stays : (c : Change) (key : ItemId) (f : Item → Item) (p : Pin) (n : Usn) (items : List Item) → AreRising 0 items → ((i : Item) → f i ≡ item_effect c p n i) → ((i : Item) → item_of items key ≡ Some i → length (puts_in c i.held) ≡ length (puts_into items c)) → blocks_used (changed key f items) ≤ blocks_used items + length (puts_into items c)
stays c key f p n items r same puts =
    sum_changed key f (length (puts_into items c)) 0 items r
    (λ i at.
    let h : blocks_held (item_effect c p n i).held ≤ blocks_held i.held + length (puts_in c i.held) = held_after c i p n in
    let e : used (f i) ≡ blocks_held (item_effect c p n i).held = ap (λ (x : Item). used x) (same i) in
    let k : length (puts_in c i.held) ≡ length (puts_into items c) = puts i at in
    omega (arith, h, e, k))

held_is : (items : List Item) (key : ItemId) (i : Item) → item_of items key ≡ Some i → held_of items key ≡ i.held
held_is items key i e = ap (λ (o : Option Item). part (λ x. x.held) [] o) e

-- a change uses no more blocks than it puts bytes into
pub uses_more : (items : List Item) (c : Change) (n : Usn) → AreRising 0 items → blocks_used (effect items c n) ≤ blocks_used items + length (puts_into items c)
uses_more items (change.Make item parent name kind size identity) n r =
    let new : Item = made item parent name kind size identity (pin_of items parent) n in
    let e : sum_by used (items ++ new ∷ []) ≡ sum_by used items + sum_by used (new ∷ []) = sum_by-append used items (new ∷ []) in
    let k : sum_by used (new ∷ []) ≡ used new + 0 = sum_by-cons used new [] in
    let z : used new ≡ 0 = none_here (size_made kind size) in
    omega (arith, e, k, z)
uses_more items (change.Remove item) n r = let h = sum_without item items in omega (arith, h)
uses_more items (change.Copy item from parent name) n r = by (item_of items from) refl
  where
    by : (o : Option Item) → item_of items from ≡ o → sum_by used (items ++ copies item parent name (pin_of items parent) n o) ≤ sum_by used items + blocks_held (part (λ i. i.held) [] (item_of items from))
    by None e = let k : sum_by used (items ++ []) ≡ sum_by used items + 0 = sum_by-append used items [] in omega (arith, k)
    by (Some i) e =
        let new : List Item = copies item parent name (pin_of items parent) n (Some i) in
        let k : sum_by used (items ++ new) ≡ sum_by used items + sum_by used new = sum_by-append used items new in
        let one : sum_by used new ≡ used i + 0 = sum_by-cons used (copied item parent name (pin_of items parent) n i) [] in
        let h : blocks_held (part (λ x. x.held) [] (item_of items from)) ≡ used i = ap (λ (o : Option Item). blocks_held (part (λ x. x.held) [] o)) e in
        omega (arith, k, one, h)
uses_more items (change.Move item parent name) n r = stays (change.Move item parent name) item _ (pin_of items parent) n items r (λ i. refl) (λ i e. refl)
uses_more items (change.Write item at bytes) n r = stays (change.Write item at bytes) item _ pin.Unpinned n items r (λ i. refl) (λ i e. ap (λ (h : List (Option ℕ)). length (puts_in (change.Write item at bytes) h)) (sym (held_is items item i e)))
uses_more items (change.Size item size) n r = stays (change.Size item size) item _ pin.Unpinned n items r (λ i. refl) (λ i e. ap (λ (h : List (Option ℕ)). length (puts_in (change.Size item size) h)) (sym (held_is items item i e)))
uses_more items (change.Filled item start bytes) n r = stays (change.Filled item start bytes) item _ pin.Unpinned n items r (λ i. refl) (λ i e. ap (λ (h : List (Option ℕ)). length (puts_in (change.Filled item start bytes) h)) (sym (held_is items item i e)))
uses_more items (change.Validated item start len) n r = stays (change.Validated item start len) item _ pin.Unpinned n items r (λ i. refl) (λ i e. refl)
uses_more items (change.Emptied item start len) n r = stays (change.Emptied item start len) item _ pin.Unpinned n items r (λ i. refl) (λ i e. refl)
uses_more items (change.SetPin item p) n r = stays (change.SetPin item p) item _ pin.Unpinned n items r (λ i. refl) (λ i e. refl)
uses_more items (change.Mark item number) n r = stays (change.Mark item number) item _ pin.Unpinned n items r (λ i. refl) (λ i e. refl)
uses_more items (change.Clear item) n r = stays (change.Clear item) item _ pin.Unpinned n items r (λ i. refl) (λ i e. refl)
uses_more items (change.Convert item identity) n r = stays (change.Convert item identity) item _ pin.Unpinned n items r (λ i. refl) (λ i e. refl)
uses_more items (change.Revert item) n r = stays (change.Revert item) item _ pin.Unpinned n items r (λ i. refl) (λ i e. refl)
uses_more items (change.Rebase item identity len at) n r = stays (change.Rebase item identity len at) item _ pin.Unpinned n items r (λ i. refl) (λ i e. refl)
uses_more items (change.Take item identity size) n r = stays (change.Take item identity size) item _ pin.Unpinned n items r (λ i. refl) (λ i e. refl)
uses_more items (change.Populated item) n r = stays (change.Populated item) item _ pin.Unpinned n items r (λ i. refl) (λ i e. refl)
uses_more items (change.Keep item on) n r = stays (change.Keep item on) item _ pin.Unpinned n items r (λ i. refl) (λ i e. refl)
