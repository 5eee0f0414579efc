-- How long a table is, from its rows: what a change adds, and whether it is too long.
use Rattle.std.proofs.Common.{◌≡◌, ℕ, zero, suc, ◌+◌, ◌*◌, ◌<◌, ◌≤◌, Bool, true, false, ◌&&◌, ◌||◌, cond, eqb, ltb, List, [], ◌∷◌, ◌++◌, length, map, refl, sym, ◌∙◌, ap, subst, arith, Option, Some}
use Rattle.std.specs.Prelude.{filter, is_some, sum_by}
use Rattle.std.proofs.lemmas.Bool.{cond-false, eqb-true, le-ltb, lt-ltb, ltb-false, ltb-true, ne_eqb, true≢false}
use Rattle.std.proofs.lemmas.List.{length-append}
use Rattle.std.proofs.lemmas.List.Sums.{sum_by-cons}
use Rattle.std.proofs.lemmas.Option.{none-some, same_Some}
use Rattle.cf_base.specs.declared.changes.Change.{Change}
use Rattle.cf_base.specs.declared.changes.Change.TheVariants as change
use Rattle.cf_base.specs.declared.ids.ItemId.{ItemId}
use Rattle.cf_base.specs.declared.ids.Usn.{Usn}
use Rattle.cf_base.specs.declared.items.Pin.{Pin}
use Rattle.cf_base.specs.declared.spans.Span.{Span}
use Rattle.cf_volume_blocks.proofs.Elsewhere.{touches_block}
use Rattle.cf_model.specs.Blocks.{block_has_byte, blocks_holding, blocks_in}
use Rattle.cf_model.specs.Books.{Book, access_of, anchor_of}
use Rattle.cf_model.specs.Effects.{changed, marked}
use Rattle.cf_model.specs.Images.{count_runs, image_len, is_too_long, most_image, most_len, most_row_len, never_longer, row_len, table_full, writes_since}
use Rattle.cf_model.specs.Items.{Item, covered_flags, here_flags, item_of, modified_flags}
use Rattle.cf_model.specs.Overlay.{is_covered}
use Rattle.cf_model.specs.Words.{by_place, counting, passes_at}
use Rattle.cf_volume_points.proofs.FileRows.{Rising, holding_rise}
use Rattle.cf_volume_points.specs.Holding.{FitsTable, HoldRows}
use Rattle.cf_ranges.specs.Pairs.{IsRisingFrom}
use Rattle.cf_ranges.specs.Positions.{IsBelow, IsRuns, contains, touched, touches}
use Rattle.cf_table.proofs.RowOfItem.{row_len_is, rows_len_is}
use Rattle.cf_table.proofs.RunsOf.{length_flags, length_held}
use Rattle.cf_table.specs.Applied.{item_effect}
use Rattle.cf_table.specs.Booked as booked
use Rattle.cf_table.specs.Means.{Means}
use Rattle.cf_table.specs.Tables.{AreTableRows, IsStored, RisesFrom, rows_len}
use Rattle.cf_table.specs.declared.rows.Row.{Row}
use Rattle.cf_volume_points.specs.Lengths.{len_with}

-- items in order

abbrev pub ItemsRise : ℕ → List Item → Type 0
ItemsRise low [] = Unit {0}
ItemsRise low (i ∷ is) = (low ≤ i.id.0) × ItemsRise (i.id.0 + 1) is

pub items_rise : (cluster : ℕ → List ℕ) (b : Book) (low : ℕ) (rows : List Row) (items : List Item) → RisesFrom low rows → HoldRows cluster b rows items → ItemsRise low items
items_rise cluster b low [] [] r h = tt
items_rise cluster b low [] (i ∷ is) r h = absurd h
items_rise cluster b low (x ∷ xs) [] r h = absurd h
items_rise cluster b low (x ∷ xs) (i ∷ is) r h =
    let same : x.id.0 ≡ i.id.0 = ap (λ (n : ItemId). n.0) h.0.means.id in
    (omega (arith, same, r.0), subst (λ (n : ℕ). ItemsRise (n + 1) is) same (items_rise cluster b (x.id.0 + 1) xs is r.1 h.1))

changed_past : (key : ItemId) (f : Item → Item) (low : ℕ) (items : List Item) → key.0 < low → ItemsRise low items → changed key f items ≡ items
changed_past key f low [] lt r = refl
changed_past key f low (i ∷ is) lt r =
    λ j. cond-false (eqb i.id.0 key.0) (f i) i (ne_eqb i.id.0 key.0 (λ e. omega (arith, e, lt, r.0))) j ∷ changed_past key f (i.id.0 + 1) is (omega (arith, lt, r.0)) r.1 j

-- a sum over the items after one of them changed
pub sum_changed : (g : Item → ℕ) (f : Item → Item) (key : ItemId) (low : ℕ) (items : List Item) (i : Item) → ItemsRise low items → item_of items key ≡ Some i → sum_by g (changed key f items) + g i ≡ sum_by g items + g (f i)
sum_changed g f key low [] i r e = absurd (none-some i e)
sum_changed g f key low (x ∷ xs) i r e = by (eqb x.id.0 key.0) refl e (sum_changed g f key (x.id.0 + 1) xs i r.1)
  where
    whole : sum_by g (x ∷ xs) ≡ g x + sum_by g xs
    whole = sum_by-cons g x xs

    by : (t : Bool) → eqb x.id.0 key.0 ≡ t → cond t (Some x) (item_of xs key) ≡ Some i → (item_of xs key ≡ Some i → sum_by g (changed key f xs) + g i ≡ sum_by g xs + g (f i))
        → sum_by g (cond t (f x) x ∷ changed key f xs) + g i ≡ sum_by g (x ∷ xs) + g (f i)
    by true h s rest =
        let here : x ≡ i = same_Some x i s in
        let past : changed key f xs ≡ xs = changed_past key f (x.id.0 + 1) xs (omega (arith, eqb-true x.id.0 key.0 h)) r.1 in
        let new = sum_by-cons g (f x) (changed key f xs) in
        omega (arith, whole, new, ap (λ (l : List Item). sum_by g l) past, ap g here, ap (λ (y : Item). g (f y)) here)
    by false h s rest = let new = sum_by-cons g x (changed key f xs) in omega (arith, whole, new, rest s)

pub length_changed : (f : Item → Item) (key : ItemId) (items : List Item) → length (changed key f items) ≡ length items
length_changed f key [] = refl
length_changed f key (i ∷ is) = ap suc (length_changed f key is)

-- the length of a row whose blocks are yet to be laid

zeros : List ℕ → List (ℕ × ℕ)
zeros [] = []
zeros (b ∷ bs) = (b, 0) ∷ zeros bs

zeros_rise : (low : ℕ) (bs : List ℕ) → Rising low bs → IsRisingFrom low (zeros bs)
unfolding zeros
zeros_rise low [] r = tt
zeros_rise low (b ∷ bs) r = (r.0, zeros_rise (b + 1) bs r.1)

zeros_names : (bs : List ℕ) → map (λ (e : ℕ × ℕ). e.0) (zeros bs) ≡ bs
unfolding zeros
zeros_names [] = refl
zeros_names (b ∷ bs) = ap (λ (l : List ℕ). b ∷ l) (zeros_names bs)

zeros_length : (bs : List ℕ) → length (zeros bs) ≡ length bs
unfolding zeros
zeros_length [] = refl
zeros_length (b ∷ bs) = ap suc (zeros_length bs)

-- the row with extents for the blocks that hold a byte
abbrev laid : Book → Row → Item → Row
laid b r i = record r { last = access_of b i.id; extents = zeros (blocks_holding i.held) }

pub planned_len : (b : Book) (r : Row) (i : Item) → IsStored r → Means r i → r.anchor ≡ anchor_of b i.id → len_with r (length (blocks_holding i.held)) ≡ row_len b i
planned_len b r i stored m anchor =
    ap (len_with r) (sym (zeros_length (blocks_holding i.held)))
    ∙ row_len_is b (laid b r i) i
    (record { size = stored.size; here = stored.here; valid = stored.valid; modified = stored.modified; modified_since = stored.modified_since; extents = zeros_rise 0 (blocks_holding i.held) (holding_rise i.held) })
    (record { means = same; anchor = anchor; last = refl; blocks = zeros_names (blocks_holding i.held) })
  where
    same : Means (laid b r i) i
    same = record {
      id = m.id;
      parent = m.parent;
      name = m.name;
      directory = m.directory;
      placeholder = m.placeholder;
      populated = m.populated;
      in_sync = m.in_sync;
      keep = m.keep;
      pin = m.pin;
      base = m.base;
      number = m.number;
      identity = m.identity;
      bytes = record { size = m.bytes.size; even = m.bytes.even; numbers = m.bytes.numbers; dirty = m.bytes.dirty; dirty_since = m.bytes.dirty_since; here = m.bytes.here; valid = m.bytes.valid; modified = m.bytes.modified; modified_since = m.bytes.modified_since };
    }

-- blocks that a set touches are those that pass the test
touched_are : (runs : List Span) (f : ℕ → Bool) (first n : ℕ) → ((b : ℕ) → touches runs b ≡ f b) → touched runs first n ≡ length (filter f (counting first n))
touched_are runs f first zero same = refl
touched_are runs f first (suc n) same = by (touches runs first) (f first) (same first) (touched_are runs f (first + 1) n same)
  where
    by : (t u : Bool) → t ≡ u → touched runs (first + 1) n ≡ length (filter f (counting (first + 1) n)) → cond t 1 0 + touched runs (first + 1) n ≡ length (cond u (first ∷ filter f (counting (first + 1) n)) (filter f (counting (first + 1) n)))
    by true true e h = omega (arith, h)
    by true false e h = absurd (true≢false e)
    by false true e h = absurd (true≢false (sym e))
    by false false e h = omega (arith, h)

passes_below : (r : Row) (i : Item) → Means r i → (p : ℕ) → contains r.here p ≡ true → p < length i.held
passes_below r i m p c = by i.held p (sym (m.bytes.here p) ∙ c)
  where
    by : (held : List (Option ℕ)) (p : ℕ) → passes_at is_some held p ≡ true → p < length held
    by [] p e = absurd (true≢false (sym e))
    by (h ∷ hs) zero e = omega arith
    by (h ∷ hs) (suc p) e = let l = by hs p e in omega (arith, l)

pub below_blocks : (r : Row) (i : Item) → Means r i → IsBelow r.here (4096 * blocks_in (length i.held))
below_blocks r i m p c = let h = passes_below r i m p c in omega (arith, h)

pub blocks_counted : (r : Row) (i : Item) → IsRuns r.here → Means r i → touched r.here 0 (blocks_in (length i.held)) ≡ length (blocks_holding i.held)
blocks_counted r i runs m = touched_are r.here (block_has_byte i.held) 0 (blocks_in (length i.held)) (touches_block r.here i.held runs m.bytes.here)

-- whether a table is full

pub fits_of : (items : List Item) (b : Book) → FitsTable items b → table_full items b ≡ false
fits_of items b fits = by (ltb 10000 (length items)) (ltb most_image (most_len items b)) (ltb most_image (image_len items b)) (le-ltb 10000 (length items) fits.few) (le-ltb most_image (image_len items b) fits.short)
  where
    by : (x y z : Bool) → x ≡ false → z ≡ false → (x || (y && z)) ≡ false
    by true y z e f = absurd (true≢false e)
    by false true z e f = f
    by false false z e f = refl

-- the rows now and their items

booked_rows : (cluster : ℕ → List ℕ) (b : Book) (rows : List Row) (items : List Item) → HoldRows cluster b rows items → booked.AreRowsOf b rows items
booked_rows cluster b [] [] h = tt
booked_rows cluster b [] (i ∷ is) h = absurd h
booked_rows cluster b (r ∷ rs) [] h = absurd h
booked_rows cluster b (r ∷ rs) (i ∷ is) h = (record { means = h.0.means; anchor = h.0.anchor; last = h.0.last; blocks = h.0.blocks }, booked_rows cluster b rs is h.1)

pub held_len : (cluster : ℕ → List ℕ) (b : Book) (rows : List Row) (items : List Item) → AreTableRows rows → HoldRows cluster b rows items → rows_len rows ≡ sum_by (row_len b) items
held_len cluster b rows items table h = rows_len_is b rows items table (booked_rows cluster b rows items h)

pub held_count : (cluster : ℕ → List ℕ) (b : Book) (rows : List Row) (items : List Item) → HoldRows cluster b rows items → length rows ≡ length items
held_count cluster b [] [] h = refl
held_count cluster b [] (i ∷ is) h = absurd h
held_count cluster b (r ∷ rs) [] h = absurd h
held_count cluster b (r ∷ rs) (i ∷ is) h = ap suc (held_count cluster b rs is h.1)

-- an image that is too long is a full table

runs_bound : (bs : List Bool) → (2 * count_runs false bs ≤ length bs + 1) × (2 * count_runs true bs ≤ length bs)
runs_bound [] = (omega arith, omega arith)
runs_bound (true ∷ bs) = let h = runs_bound bs in (omega (arith, h.1), omega (arith, h.1))
runs_bound (false ∷ bs) = let h = runs_bound bs in (omega (arith, h.0), omega (arith, h.0))

fewer_pass : (f : ℕ → Bool) (xs : List ℕ) → length (filter f xs) ≤ length xs
fewer_pass f [] = omega arith
fewer_pass f (x ∷ xs) = by (f x) (fewer_pass f xs)
  where
    by : (t : Bool) → length (filter f xs) ≤ length xs → length (cond t (x ∷ filter f xs) (filter f xs)) ≤ suc (length xs)
    by true h = omega (arith, h)
    by false h = omega (arith, h)

length_counting : (first n : ℕ) → length (counting first n) ≡ n
length_counting first zero = refl
length_counting first (suc n) = ap suc (length_counting (first + 1) n)

row_bound : (b : Book) (i : Item) → length i.valid ≡ length i.held → row_len b i ≤ most_row_len i
row_bound b i even =
    let here = runs_bound (here_flags i) in
    let valid = runs_bound i.valid in
    let modified = runs_bound (modified_flags i) in
    let since = runs_bound (covered_flags (writes_since b i) i) in
    let blocks = fewer_pass (block_has_byte i.held) (counting 0 (blocks_in (length i.held))) in
    omega (
      arith,
      here.0,
      valid.0,
      modified.0,
      since.0,
      blocks,
      length_counting 0 (blocks_in (length i.held)),
      even,
      length_held i.held,
      length_flags (λ p. is_covered i.writes p) 0 i.held,
      length_flags (λ p. is_covered (writes_since b i) p) 0 i.held,
    )

abbrev pub AreEven : List Item → Type 0
AreEven [] = Unit {0}
AreEven (i ∷ is) = (length i.valid ≡ length i.held) × AreEven is

sums_bound : (b : Book) (items : List Item) → AreEven items → sum_by (row_len b) items ≤ sum_by most_row_len items
sums_bound b [] e = omega arith
sums_bound b (i ∷ is) e = omega (arith, sum_by-cons (row_len b) i is, sum_by-cons most_row_len i is, row_bound b i e.0, sums_bound b is e.1)

pub full_of_long : (items : List Item) (b : Book) → AreEven items → most_image < image_len items b → table_full items b ≡ true
full_of_long items b even long = by (ltb 10000 (length items)) (ltb most_image (most_len items b)) (ltb most_image (image_len items b))
    (let bound = sums_bound b items even in lt-ltb most_image (most_len items b) (omega (arith, long, bound))) (lt-ltb most_image (image_len items b) long)
  where
    by : (x y z : Bool) → y ≡ true → z ≡ true → (x || (y && z)) ≡ true
    by true y z e f = refl
    by false true z e f = f
    by false false z e f = absurd (true≢false (sym e))

pub full_of_many : (items : List Item) (b : Book) → 10000 < length items → table_full items b ≡ true
full_of_many items b many = by (ltb 10000 (length items)) (is_too_long items b) (lt-ltb 10000 (length items) many)
  where
    by : (x y : Bool) → x ≡ true → (x || y) ≡ true
    by true y e = refl
    by false y e = absurd (true≢false (sym e))

pub even_items : (cluster : ℕ → List ℕ) (b : Book) (rows : List Row) (items : List Item) → HoldRows cluster b rows items → AreEven items
even_items cluster b [] [] h = tt
even_items cluster b [] (i ∷ is) h = absurd h
even_items cluster b (r ∷ rs) [] h = absurd h
even_items cluster b (r ∷ rs) (i ∷ is) h = (h.0.means.bytes.even, even_items cluster b rs is h.1)

pub even_changed : (f : Item → Item) (key : ItemId) (items : List Item) → AreEven items → ((i : Item) → item_of items key ≡ Some i → length (f i).valid ≡ length (f i).held) → (low : ℕ) → ItemsRise low items → AreEven (changed key f items)
even_changed f key [] e h low r = tt
even_changed f key (i ∷ is) e h low r = by (eqb i.id.0 key.0) refl h (λ g. even_changed f key is e.1 g (i.id.0 + 1) r.1)
  where
    by : (t : Bool) → eqb i.id.0 key.0 ≡ t → ((j : Item) → cond t (Some i) (item_of is key) ≡ Some j → length (f j).valid ≡ length (f j).held)
        → (((j : Item) → item_of is key ≡ Some j → length (f j).valid ≡ length (f j).held) → AreEven (changed key f is)) → AreEven (cond t (f i) i ∷ changed key f is)
    by true s g rest = (g i refl, subst AreEven (sym (changed_past key f (i.id.0 + 1) is (omega (arith, eqb-true i.id.0 key.0 s)) r.1)) e.1)
    by false s g rest = (e.0, rest g)

-- a change of one row: the test of the program, and what it tells

module _ (items : List Item) (b : Book) (key : ItemId) (f : Item → Item) (i : Item) (old new image : ℕ) (rise : ItemsRise 0 items) (found : item_of items key ≡ Some i) (fits : FitsTable items b)
    (image_is : image ≡ image_len items b) (old_is : old ≡ row_len b i) (new_is : new ≡ row_len b (f i)) where
  sums : image_len (changed key f items) b + old ≡ image + new
  sums = omega (arith, image_is, old_is, new_is, sum_changed (row_len b) f key 0 items i rise found)

  pub change_fits : ltb (most_image + old) (image + new) ≡ false → FitsTable (changed key f items) b
  change_fits e = record { few = omega (arith, length_changed f key items, fits.few); short = omega (arith, sums, ltb-false (most_image + old) (image + new) e) }

  pub change_full : AreEven (changed key f items) → ltb (most_image + old) (image + new) ≡ true → table_full (changed key f items) b ≡ true
  change_full even e = full_of_long (changed key f items) b even (omega (arith, sums, ltb-true (most_image + old) (image + new) e))

-- the same of a row behind all others

module _ (items : List Item) (b : Book) (i : Item) (new image : ℕ) (fits : FitsTable items b) (image_is : image ≡ image_len items b) (new_is : new ≡ row_len b i) where
  sum_last : sum_by (row_len b) (items ++ i ∷ []) ≡ sum_by (row_len b) items + row_len b i
  sum_last = by items
    where
      by : (l : List Item) → sum_by (row_len b) (l ++ i ∷ []) ≡ sum_by (row_len b) l + row_len b i
      by [] = omega (arith, sum_by-cons (row_len b) i [])
      by (x ∷ xs) = omega (arith, sum_by-cons (row_len b) x (xs ++ i ∷ []), sum_by-cons (row_len b) x xs, by xs)

  pub last_fits : ltb most_image (image + new) ≡ false → length items + 1 ≤ 10000 → FitsTable (items ++ i ∷ []) b
  last_fits e few = record { few = omega (arith, length-append items (i ∷ []), few); short = omega (arith, sum_last, image_is, new_is, ltb-false most_image (image + new) e) }

  pub last_full : AreEven (items ++ i ∷ []) → ltb most_image (image + new) ≡ true → table_full (items ++ i ∷ []) b ≡ true
  last_full even e = full_of_long (items ++ i ∷ []) b even (omega (arith, sum_last, image_is, new_is, ltb-true most_image (image + new) e))

-- what never makes a row longer

pub none_covered : (at : ℕ) (held : List (Option ℕ)) → count_runs false (by_place (λ p h. is_covered [] p) at held) ≡ 0
none_covered at [] = refl
none_covered at (h ∷ hs) = none_covered (at + 1) hs

marked_lighter : (b : Book) (i : Item) → row_len b (marked i) ≤ row_len b i
marked_lighter b i = let a = none_covered 0 i.held in omega (arith, a)

pub lighter : (c : Change) (pin : Pin) (n : Usn) (b : Book) (i : Item) → never_longer c ≡ true → row_len b (item_effect c pin n i) ≤ row_len b i
lighter (change.Make item parent name kind size identity) pin n b i e = absurd (true≢false (sym e))
lighter (change.Remove item) pin n b i e = omega arith
lighter (change.Move item parent name) pin n b i e = absurd (true≢false (sym e))
lighter (change.Write item at bytes) pin n b i e = absurd (true≢false (sym e))
lighter (change.Size item size) pin n b i e = absurd (true≢false (sym e))
lighter (change.Filled item start bytes) pin n b i e = absurd (true≢false (sym e))
lighter (change.Validated item start len) pin n b i e = absurd (true≢false (sym e))
lighter (change.Emptied item start len) pin n b i e = absurd (true≢false (sym e))
lighter (change.SetPin item state) pin n b i e = omega arith
lighter (change.Mark item at) pin n b i e = marked_lighter b i
lighter (change.Clear item) pin n b i e = omega arith
lighter (change.Convert item identity) pin n b i e = absurd (true≢false (sym e))
lighter (change.Revert item) pin n b i e = absurd (true≢false (sym e))
lighter (change.Rebase item identity len at) pin n b i e = absurd (true≢false (sym e))
lighter (change.Take item identity size) pin n b i e = absurd (true≢false (sym e))
lighter (change.Copy item from parent name) pin n b i e = absurd (true≢false (sym e))
lighter (change.Populated item) pin n b i e = absurd (true≢false (sym e))
lighter (change.Keep item on) pin n b i e = omega arith
