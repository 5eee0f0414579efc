-- What the next change needs of the rows, from what is known of their items, and from the change before.
use Rattle.std.proofs.Common.{◌≡◌, ℕ, ◌+◌, ◌<◌, ◌≤◌, true, false, ◌&&◌, ◌||◌, not, List, [], ◌∷◌, ◌++◌, get_or, length, max, sym, ap, subst, ◌∙◌, arith, eqb, ltb, Option, Some, None}
use Rattle.std.specs.Prelude.{All, MatchOption}
use Rattle.std.proofs.lemmas.Bool.Decides.{nat_tests}
use Rattle.std.proofs.lemmas.List.Elements.{All-cons, All-filter, All-get_or, All-head, All-nil, All-push, All-set, All-tail, All-weaker}
use Rattle.cf_base.specs.declared.changes.Change.{Change}
use Rattle.cf_base.specs.declared.changes.Change.TheVariants as change
use Rattle.cf_base.specs.declared.ids.ItemId.{ItemId}
use Rattle.cf_base.specs.declared.ids.Usn.{Usn}
use Rattle.cf_base.specs.declared.items.Pin.{Pin}
use Rattle.cf_model.specs.Books.{Book, anchor_of}
use Rattle.cf_model.specs.Items.{Item, item_of}
use Rattle.cf_model.specs.Numbers.{above, no_usn, same_usn}
use Rattle.cf_table.specs.Applied.{FitsRow, Steps}
use Rattle.cf_table.specs.Booked.{AreRowsOf, IsRowOf}
use Rattle.cf_table.specs.Changing.{AreBelow, Fits, FitsItem, FitsItems, FitsRows, IsNext, ItemsFit, item_of_change}
use Rattle.cf_table.specs.Means.{IsFresh, IsLater, Means}
use Rattle.cf_table.specs.Tables.{MeansAll, SetsAt, Table, row_of, without_row}
use Rattle.cf_table.specs.declared.rows.Row.{Row}
use Rattle.cf_table.proofs.Lengths.{rows_are_items}
use Rattle.cf_table.proofs.RowOfItem.{means_all}

-- fits

fits_row : (c : Change) (b : Book) (r : Row) (i : Item) → IsRowOf b r i → FitsItem c b i → FitsRow c r
fits_row (change.Make item parent name kind size identity) b r i is f = f
fits_row (change.Remove item) b r i is f = f
fits_row (change.Move item parent name) b r i is f = f
fits_row (change.Write item at bytes) b r i is f = f
fits_row (change.Size item size) b r i is f = f
fits_row (change.Filled item start bytes) b r i is f = f
fits_row (change.Validated item start len) b r i is f = f
fits_row (change.Emptied item start len) b r i is f = f
fits_row (change.SetPin item state) b r i is f = f
fits_row (change.Mark item number) b r i is f = f
fits_row (change.Clear item) b r i is f = f
fits_row (change.Convert item identity) b r i is f = f
fits_row (change.Revert item) b r i is f = f
fits_row (change.Rebase item identity len at) b r i is f =
    (f.0, f.1, ap (λ n. same_usn at no_usn || same_usn at n || same_usn at r.number) is.anchor ∙ ap (λ n. same_usn at no_usn || same_usn at (anchor_of b i.id) || same_usn at n) is.means.number ∙ f.2)
fits_row (change.Take item identity size) b r i is f = f
fits_row (change.Copy item from parent name) b r i is f = f
fits_row (change.Populated item) b r i is f = f
fits_row (change.Keep item on) b r i is f = f

fits_rows : (c : Change) (b : Book) (rows : List Row) (items : List Item) → AreRowsOf b rows items → FitsItems c b items → FitsRows c rows
fits_rows c b [] [] is f = All-nil (λ r. r.id.0 ≡ (item_of_change c).0 → FitsRow c r)
fits_rows c b [] (i ∷ is') is f = absurd is
fits_rows c b (r ∷ rs) [] is f = absurd is
fits_rows c b (r ∷ rs) (i ∷ is') is f =
    All-cons (λ r. r.id.0 ≡ (item_of_change c).0 → FitsRow c r) r rs
    (λ e. fits_row c b r i is.0 (All-head (λ i. i.id.0 ≡ (item_of_change c).0 → FitsItem c b i) i is' f (sym (ap (λ v. v.0) is.0.means.id) ∙ e)))
    (fits_rows c b rs is' is.1 (All-tail (λ i. i.id.0 ≡ (item_of_change c).0 → FitsItem c b i) i is' f))

new_among : (item : ItemId) (rows : List Row) (items : List Item) → MeansAll rows items → All (λ i. i.id.0 < item.0) items → All (λ r. r.id.0 < item.0) rows
new_among item [] [] m f = All-nil (λ r. r.id.0 < item.0)
new_among item [] (i ∷ is) m f = absurd m
new_among item (r ∷ rs) [] m f = absurd m
new_among item (r ∷ rs) (i ∷ is) m f =
    All-cons (λ r. r.id.0 < item.0) r rs (omega (arith, ap (λ v. v.0) m.0.id, All-head (λ i. i.id.0 < item.0) i is f)) (new_among item rs is m.1 (All-tail (λ i. i.id.0 < item.0) i is f))

source_fits : (rows : List Row) (items : List Item) (from : ItemId) → MeansAll rows items → MatchOption (item_of items from) ⊥ (λ i. 8 ≤ length i.identity) → MatchOption (row_of rows from) ⊥ (λ r. 8 ≤ length r.identity)
source_fits rows items from m f = by (row_of rows from) (rows_are_items rows items from m) where
  by : (o : Option Row) → MatchOption o (item_of items from ≡ None) (λ r. (i : Item) × (item_of items from ≡ Some i) × Means r i) → MatchOption o ⊥ (λ r. 8 ≤ length r.identity)
  by None e = subst (λ (o : Option Item). MatchOption o ⊥ (λ i. 8 ≤ length i.identity)) e f
  by (Some r) e = omega (arith, ap length e.2.identity, subst (λ (o : Option Item). MatchOption o ⊥ (λ i. 8 ≤ length i.identity)) e.1 f)

pub items_fit : (c : Change) (b : Book) (rows : List Row) (items : List Item) → AreRowsOf b rows items → ItemsFit c b items → Fits c rows
items_fit (change.Make item parent name kind size identity) b rows items is f = ((f.0.0, new_among item rows items (means_all b rows items is) f.0.1), f.1, f.2, f.3)
items_fit (change.Copy item from parent name) b rows items is f =
    ((f.0.0, new_among item rows items (means_all b rows items is) f.0.1), f.1, source_fits rows items from (means_all b rows items is) f.2)
items_fit (change.Remove item) b rows items is f = tt
items_fit (change.Move item parent name) b rows items is f = fits_rows (change.Move item parent name) b rows items is f
items_fit (change.Write item at bytes) b rows items is f = fits_rows (change.Write item at bytes) b rows items is f
items_fit (change.Size item size) b rows items is f = fits_rows (change.Size item size) b rows items is f
items_fit (change.Filled item start bytes) b rows items is f = fits_rows (change.Filled item start bytes) b rows items is f
items_fit (change.Validated item start len) b rows items is f = fits_rows (change.Validated item start len) b rows items is f
items_fit (change.Emptied item start len) b rows items is f = fits_rows (change.Emptied item start len) b rows items is f
items_fit (change.SetPin item state) b rows items is f = fits_rows (change.SetPin item state) b rows items is f
items_fit (change.Mark item number) b rows items is f = fits_rows (change.Mark item number) b rows items is f
items_fit (change.Clear item) b rows items is f = fits_rows (change.Clear item) b rows items is f
items_fit (change.Convert item identity) b rows items is f = fits_rows (change.Convert item identity) b rows items is f
items_fit (change.Revert item) b rows items is f = fits_rows (change.Revert item) b rows items is f
items_fit (change.Rebase item identity len at) b rows items is f = fits_rows (change.Rebase item identity len at) b rows items is f
items_fit (change.Take item identity size) b rows items is f = fits_rows (change.Take item identity size) b rows items is f
items_fit (change.Populated item) b rows items is f = fits_rows (change.Populated item) b rows items is f
items_fit (change.Keep item on) b rows items is f = fits_rows (change.Keep item on) b rows items is f

-- numbers

later_than_last : (we wp me mp ne np : ℕ) → (ltb me we || (eqb we me && ltb mp wp)) ≡ false → (ltb me ne || (eqb ne me && ltb mp np)) ≡ true → (ltb we ne || (eqb ne we && ltb wp np)) ≡ true
later_than_last we wp me mp ne np h k = grind (arith, nat_tests)

-- what comes after the last number comes after all that are not above it
above_last : (m last n : Usn) → above m last ≡ false → above n last ≡ true → above n m ≡ true
above_last m last n h k = later_than_last m.epoch m.place last.epoch last.place n.epoch n.place h k

pub next_after_last : (last n : Usn) (rows : List Row) → above n last ≡ true → All (λ r. (above r.number last ≡ false) × (above r.anchor last ≡ false)) rows → IsNext n rows
next_after_last last n [] h a = All-nil (λ r. IsLater n r)
next_after_last last n (r ∷ rs) h a =
    let first = All-head (λ r. (above r.number last ≡ false) × (above r.anchor last ≡ false)) r rs a in
    All-cons (λ r. IsLater n r) r rs (record { number = above_last r.number last n first.0 h; anchor = above_last r.anchor last n first.1 h })
    (next_after_last last n rs h (All-tail (λ r. (above r.number last ≡ false) × (above r.anchor last ≡ false)) r rs a))

-- the change after that

through : (ae ap ne np me mp : ℕ) → (ltb ae ne || (eqb ne ae && ltb ap np)) ≡ true → (ltb ne me || (eqb me ne && ltb np mp)) ≡ true → (ltb ae me || (eqb me ae && ltb ap mp)) ≡ true
through ae ap ne np me mp h k = grind (arith, nat_tests)

pub above_through : (a n m : Usn) → above n a ≡ true → above m n ≡ true → above m a ≡ true
above_through a n m h k = through a.epoch a.place n.epoch n.place m.epoch m.place h k

pub next_goes_on : (n m : Usn) (rows : List Row) → above m n ≡ true → IsNext n rows → IsNext m rows
next_goes_on n m rows h a = All-weaker (λ r. IsLater n r) (λ r. IsLater m r) (λ r l. record { number = above_through r.number n m l.number h; anchor = above_through r.anchor n m l.anchor h }) rows a

pub next_changed : (c : Change) (pin : Pin) (n m : Usn) (k : ℕ) (old new : List Row) → k < length old → IsNext n old → SetsAt (Steps c pin n) k old new → above m n ≡ true → IsNext m new
next_changed c pin n m k old new lt a sets h =
    let before : IsLater m (get_or old k sets.0) = All-get_or (λ r. IsLater m r) old k sets.0 lt (next_goes_on n m old h a) in
    subst (λ (l : List Row). IsNext m l) (sym sets.2)
    (All-set (λ r. IsLater m r) old k sets.0 (record { number = sets.1.later m before.number h; anchor = ap (λ (u : Usn). above m u) sets.1.rest.anchor ∙ before.anchor }) (next_goes_on n m old h a))

pub next_pushed : (n m : Usn) (old new : List Row) (row : Row) → IsNext n old → row.number ≡ n → IsFresh row → new ≡ old ++ row ∷ [] → above m n ≡ true → above n no_usn ≡ true → IsNext m new
next_pushed n m old new row a number fresh is h k =
    subst (λ (l : List Row). IsNext m l) (sym is)
    (All-push (λ r. IsLater m r) old row (next_goes_on n m old h a) (record { number = ap (λ (u : Usn). above m u) number ∙ h; anchor = ap (λ (u : Usn). above m u) fresh.anchor ∙ above_through no_usn n m k h }))

pub next_without : (n m : Usn) (id : ItemId) (rows : List Row) → IsNext n rows → above m n ≡ true → IsNext m (without_row id rows)
next_without n m id rows a h = All-filter (λ r. not (eqb r.id.0 id.0)) (λ r. IsLater m r) rows (next_goes_on n m rows h a)

-- ids

pub below_changed : (c : Change) (pin : Pin) (n : Usn) (next : ItemId) (k : ℕ) (old new : List Row) → k < length old → SetsAt (Steps c pin n) k old new → All (λ r. r.id.0 < next.0) old → All (λ r. r.id.0 < next.0) new
below_changed c pin n next k old new lt sets a =
    subst (λ (l : List Row). All (λ r. r.id.0 < next.0) l) (sym sets.2)
    (All-set (λ r. r.id.0 < next.0) old k sets.0 (omega (arith, ap (λ v. v.0) sets.1.rest.id, All-get_or (λ r. r.id.0 < next.0) old k sets.0 lt a)) a)

pub below_pushed : (old new : Table) (row : Row) → new ≡ record { rows = old.rows ++ row ∷ []; next = record { 0 = max old.next.0 (row.id.0 + 1) } } → AreBelow old → AreBelow new
below_pushed old new row is a =
    subst (λ (t : Table). AreBelow t) (sym is)
    (All-push (λ r. r.id.0 < max old.next.0 (row.id.0 + 1)) old.rows row
    (All-weaker (λ r. r.id.0 < old.next.0) (λ r. r.id.0 < max old.next.0 (row.id.0 + 1)) (λ r h. omega (arith, h)) old.rows a) (omega arith))

pub below_without : (old new : Table) (id : ItemId) → new ≡ record old { rows = without_row id old.rows } → AreBelow old → AreBelow new
below_without old new id is a = subst (λ (t : Table). AreBelow t) (sym is) (All-filter (λ r. not (eqb r.id.0 id.0)) (λ r. r.id.0 < old.next.0) old.rows a)
