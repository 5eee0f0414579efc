-- Whether a change is refused, by the tests of the program.
use Rattle.std.proofs.Common.{◌≡◌, inl, inr, ⊎_elim, ℕ, zero, suc, ◌+◌, ◌*◌, ◌<◌, ◌≤◌, Bool, true, false, ◌||◌, ◌&&◌, not, cond, ltb, List, [], ◌∷◌, length, min, refl, sym, ◌∙◌, ap, subst, arith, Option, Some, None}
use Rattle.std.specs.Prelude.{sum_by}
use Rattle.std.proofs.lemmas.Bool.{cases_Bool, le-ltb, lt-ltb, true≢false}
use Rattle.std.proofs.lemmas.Option.{same_Some}
use Rattle.cf_base.specs.declared.changes.Change.{Change}
use Rattle.cf_base.specs.declared.changes.Change.TheVariants as change
use Rattle.cf_base.specs.declared.codes.Code.TheVariants as code
use Rattle.cf_base.specs.declared.ids.ItemId.{ItemId}
use Rattle.cf_base.specs.declared.ids.Usn.{Usn}
use Rattle.cf_base.specs.declared.items.Pin.{Pin}
use Rattle.cf_volume_blocks.specs.Bytes.{puts_in}
use Rattle.cf_clusters.specs.Roles.{how_many, is_now}
use Rattle.cf_disk.specs.Disk.{State}
use Rattle.cf_model.specs.Blocks.{blocks_in, blocks_used, is_full, passes_clusters, puts_into}
use Rattle.cf_model.specs.Books.{Book, anchor_of}
use Rattle.cf_model.specs.Changes.{lacks_numbers, may_need_room, needs_id, next_number, no_blocks, no_table, put_change, why_no_room}
use Rattle.cf_model.specs.Numbers.{above, most, usn_after}
use Rattle.cf_model.specs.Effects.{changed}
use Rattle.cf_model.specs.Images.{aux_len, image_len, is_table_full, most_image, never_longer, row_len, table_full}
use Rattle.cf_model.specs.Items.{Item, item_of}
use Rattle.cf_model.specs.State.{Volume}
use Rattle.cf_model.specs.Words.{part}
use Rattle.cf_volume_points.proofs.Counted.{used_now}
use Rattle.cf_volume_points.proofs.ItemChanges.{row_holds, rows_mean}
use Rattle.cf_volume_points.proofs.LogSteps.{same_item, stays_book, stays_puts}
use Rattle.cf_volume_points.proofs.RowRoom.{ItemsRise, below_blocks, blocks_counted, change_fits, change_full, even_changed, even_items, fits_of, held_len, items_rise, lighter, planned_len}
use Rattle.cf_volume_points.specs.Holding.{FitsTable, Holds, HoldsRow}
use Rattle.cf_volume_points.specs.Known.{Known}
use Rattle.cf_volume_points.specs.Lengths.{len_with}
use Rattle.cf_volume_points.specs.Sound.{len_now}
use Rattle.cf_volume_points.specs.Standing.{cluster_on}
use Rattle.cf_ranges.specs.Positions.{IsBelow, touched}
use Rattle.cf_table.proofs.StayingRows.{effect_is}
use Rattle.cf_table.specs.Applied.{item_effect}
use Rattle.cf_table.specs.Changing.{item_of_change, pin_for, stays}
use Rattle.cf_table.specs.Means.{IsLater, Means}
use Rattle.cf_table.specs.Tables.{AreTableRows, RisesFrom, row_of}
use Rattle.cf_table.specs.declared.rows.Row.{Row}
use Rattle.cf_volume_changes.proofs.Puts.{found_table}
use Rattle.cf_volume_changes.specs.Growth.{AddsAtMost}
use Rattle.cf_volume_changes.specs.Laid.{Plans}
use Rattle.cf_volume_changes.specs.RoomLeft.{HasRoomFor}
use Rattle.cf_volume_changes.specs.Waits.{IsLight, MayWait, passes}

pub passes_is : (clusters : ℕ) (items : List Item) (n : ℕ) → passes_clusters clusters items n ≡ passes clusters (blocks_used items) n
passes_is clusters items zero = refl
passes_is clusters items (suc n) = ap (λ (b : Bool). b && ltb clusters (blocks_used items + suc n)) (sym (lt-ltb 0 (suc n) (omega arith)))

-- the clusters that a change needs

passes_more : (clusters : ℕ) (items : List Item) (n : ℕ) → 0 < n → passes_clusters clusters items n ≡ ltb clusters (blocks_used items + n)
passes_more clusters items zero h = absurd (omega (arith, h))
passes_more clusters items (suc n) h = refl

passes_less : (clusters : ℕ) (items : List Item) (n : ℕ) → blocks_used items + n ≤ clusters → passes_clusters clusters items n ≡ false
passes_less clusters items zero few = refl
passes_less clusters items (suc n) few = le-ltb clusters (blocks_used items + suc n) few

both_true : (a b : Bool) → a ≡ true → b ≡ true → (a && b) ≡ true
both_true true b e f = f
both_true false b e f = absurd (true≢false (sym e))

and_false : (b : Bool) → (b && false) ≡ false
and_false true = refl
and_false false = refl

-- a change that puts no block needs no commit before it
pub nothing_needed : (c : Change) (v : Volume) → length (puts_into v.items c) ≡ 0 → may_need_room c v ≡ false
nothing_needed c v none = ap (λ (b : Bool). b && passes_clusters v.clusters v.items_then (v.put_since + length (puts_into v.items c))) (le-ltb 0 (length (puts_into v.items c)) (omega (arith, none)))

module _ (s : State) (k : Known) (v : Volume) (c : Change) (n : ℕ) (at : Holds s k v) (puts : length (puts_into v.items c) ≡ n) where
  pub clusters_full : is_full v.clusters v.items c ≡ passes k.limit (how_many is_now k.uses) n
  clusters_full =
      let used = used_now (cluster_on s.seen) v.book k.table.rows v.items k.uses at.rows at.owns in
      passes_is v.clusters v.items (length (puts_into v.items c)) ∙ (λ j. passes (at.clusters j) (used j) (puts j))

  -- where the blocks of the last point, and those put since and now, pass the clusters, a commit may be needed before the change
  room_past : 0 < n → v.clusters < blocks_used v.items_then + (v.put_since + length (puts_into v.items c)) → may_need_room c v ≡ true
  room_past put past =
      let some : 0 < length (puts_into v.items c) = omega (arith, put, puts) in
      both_true (ltb 0 (length (puts_into v.items c))) (passes_clusters v.clusters v.items_then (v.put_since + length (puts_into v.items c))) (lt-ltb 0 (length (puts_into v.items c)) some)
      (passes_more v.clusters v.items_then (v.put_since + length (puts_into v.items c)) (omega (arith, some))
      ∙ lt-ltb v.clusters (blocks_used v.items_then + (v.put_since + length (puts_into v.items c))) past)

  -- so where the change may wait
  pub room_needed : MayWait k n → may_need_room c v ≡ true
  room_needed waits = ⊎_elim
      (λ few. room_past (omega (arith, few)) (omega (arith, few, puts, at.used, at.clusters, at.within)))
      (λ heavy. room_past heavy.0 (omega (arith, heavy.1, puts, at.load, at.clusters))) waits

  -- nor does one before which the blocks are few enough
  room_left : IsLight k n → may_need_room c v ≡ false
  room_left light = ⊎_elim
      (λ none. nothing_needed c v (omega (arith, puts, none)))
      (λ few. ap (λ (b : Bool). ltb 0 (length (puts_into v.items c)) && b)
      (passes_less v.clusters v.items_then (v.put_since + length (puts_into v.items c)) (omega (arith, few.1, at.exact few.0, puts, at.clusters)))
      ∙ and_false (ltb 0 (length (puts_into v.items c)))) light

  -- so where the disk wants a commit here and the change does not wait
  pub put_wanted : (aim : Option ℕ) → (aim ≡ Some k.count → IsLight k n) → aim ≡ Some (length v.log) → may_need_room c v ≡ false
  put_wanted aim light here = room_left (light (here ∙ ap Some (sym at.count)))

or_false : (b : Bool) → (b || false) ≡ b
or_false true = refl
or_false false = refl

never_full : (c : Change) (items : List Item) (b : Book) → never_longer c ≡ true → is_table_full c items b ≡ false
never_full c items b e = ap (λ (t : Bool). cond t false (table_full items b)) e

pub may_be_full : (c : Change) (items : List Item) (b : Book) → never_longer c ≡ false → is_table_full c items b ≡ table_full items b
may_be_full c items b e = ap (λ (t : Bool). cond t false (table_full items b)) e

module _ (s : State) (k : Known) (v : Volume) (c : Change) (row : Row) (at : Holds s k v) (rises : RisesFrom 0 k.table.rows) (table : AreTableRows k.table.rows) (kind : stays c ≡ true) (found : row_of k.table.rows (item_of_change c) ≡ Some row) where
  pub here : (i : Item) × (item_of v.items (item_of_change c) ≡ Some i) × HoldsRow (cluster_on s.seen) v.book row i
  here = row_holds (cluster_on s.seen) v.book k.table.rows v.items (item_of_change c) row at.rows found

  abbrev pub step : Item → Item
  step i = item_effect c (pin_for c k.table.rows) (next_number v) i

  items_are : (put_change c v).items ≡ changed (item_of_change c) step v.items
  items_are = sym (effect_is c (next_number v) k.table.rows v.items kind (rows_mean (cluster_on s.seen) v.book k.table.rows v.items at.rows))

  book_is : (put_change c v).book ≡ v.book
  book_is = stays_book c v.book kind

  rise : ItemsRise 0 v.items
  rise = items_rise (cluster_on s.seen) v.book 0 k.table.rows v.items rises at.rows

  fits_as : FitsTable (changed (item_of_change c) step v.items) v.book → FitsTable (put_change c v).items (put_change c v).book
  fits_as fits = subst (λ (b : Book). FitsTable (put_change c v).items b) (sym book_is) (subst (λ (l : List Item). FitsTable l v.book) (sym items_are) fits)

  pub image_is : (long : ℕ) → long ≡ len_now k → min long 18446744073709551615 ≡ image_len v.items v.book
  image_is long e =
      let rows = held_len (cluster_on s.seen) v.book k.table.rows v.items table at.rows in
      let records = ap (sum_by aux_len) at.records in
      let short = at.fits.short in
      omega (arith, e, rows, records, short)

  pub old_is : len_with row (touched row.here 0 (blocks_in (length here.0.held))) ≡ row_len v.book here.0
  old_is =
      let stored = (found_table k.table.rows (item_of_change c) row table found).stored in
      ap (len_with row) (blocks_counted row here.0 stored.here here.2.means) ∙ planned_len v.book row here.0 stored here.2.means here.2.anchor

  -- a change that makes the row longer by what the image has room for
  pub short_table : IsLater (usn_after k.epoch k.place) row → (blocks more size : ℕ) → length (puts_into v.items c) ≡ blocks → AddsAtMost c blocks more → size ≡ len_now k → min size 18446744073709551615 + more ≤ most_image
      → is_table_full c (put_change c v).items (put_change c v).book ≡ false
  short_table later blocks more size puts adds size_is short = elim (cases_Bool (never_longer c)) [
    | inl e ↦ never_full c (put_change c v).items (put_change c v).book e
    | inr e ↦ may_be_full c (put_change c v).items (put_change c v).book e ∙ fits_of (put_change c v).items (put_change c v).book fits
  ]
    where
      after_push : above (next_number v) (anchor_of v.book here.0.id) ≡ true
      after_push = (λ j. above (usn_after (sym at.epoch j) (sym at.place j)) (sym here.2.anchor j)) ∙ later.anchor

      fits : FitsTable (put_change c v).items (put_change c v).book
      fits =
          let long = adds here.0 (pin_for c k.table.rows) (next_number v) v.book after_push (sym (ap length (stays_puts c v.items kind ∙ ap (λ (o : Option Item). puts_in c (part (λ i. i.held) [] o)) here.1)) ∙ puts) in
          let image = image_is size size_is in
          fits_as (change_fits v.items v.book (item_of_change c) step here.0 (row_len v.book here.0) (row_len v.book (step here.0)) (min size 18446744073709551615) rise here.1 at.fits image refl refl
          (le-ltb (most_image + row_len v.book here.0) (min size 18446744073709551615 + row_len v.book (step here.0)) (omega (arith, long, short))))

  module _ (planned : Row) (blocks : List ℕ) (plan : Plans c (pin_for c k.table.rows) (next_number v) row planned blocks) where
    pub new_means : Means planned (step here.0)
    new_means = plan.means here.0 here.2.means

    pub new_is : len_with planned (touched planned.here 0 (blocks_in (length (step here.0).held))) ≡ row_len v.book (step here.0)
    new_is = ap (len_with planned) (blocks_counted planned (step here.0) plan.stored.here new_means)
        ∙ planned_len v.book planned (step here.0) plan.stored new_means
        (plan.rest.anchor ∙ here.2.anchor ∙ ap (λ (n : ItemId). anchor_of v.book n) (sym (same_item c (pin_for c k.table.rows) (next_number v) here.0)))

    module _ (long : Bool) (image old new : ℕ) (image_len_is : image ≡ image_len v.items v.book) (old_len_is : old ≡ row_len v.book here.0) (new_len_is : new ≡ row_len v.book (step here.0)) (long_is : long ≡ ltb (most_image + old) (image + new)) where
      pub stay_fits : long ≡ false → FitsTable (put_change c v).items (put_change c v).book
      stay_fits e = fits_as (change_fits v.items v.book (item_of_change c) step here.0 old new image rise here.1 at.fits image_len_is old_len_is new_len_is (sym long_is ∙ e))

      stay_full : long ≡ true → table_full (put_change c v).items (put_change c v).book ≡ true
      stay_full e = (λ j. table_full (items_are j) (book_is j)) ∙ change_full v.items v.book (item_of_change c) step here.0 old new image rise here.1 at.fits image_len_is old_len_is new_len_is
          (even_changed step (item_of_change c) v.items (even_items (cluster_on s.seen) v.book k.table.rows v.items at.rows)
          (λ i f. subst (λ (j : Item). length (step j).valid ≡ length (step j).held) (same_Some here.0 i (sym here.1 ∙ f)) new_means.bytes.even) 0 rise)
          (sym long_is ∙ e)

      -- what never makes a row longer passes the test
      never_long : never_longer c ≡ true → long ≡ false
      never_long e = long_is ∙ le-ltb (most_image + old) (image + new)
          (let less = lighter c (pin_for c k.table.rows) (next_number v) v.book here.0 e in omega (arith, less, old_len_is, new_len_is, image_len_is, at.fits.short))

      pub stay_table : is_table_full c (put_change c v).items (put_change c v).book ≡ long
      stay_table = elim (cases_Bool (never_longer c)) [
        | inl e ↦ never_full c (put_change c v).items (put_change c v).book e ∙ sym (never_long e)
        | inr e ↦ may_be_full c (put_change c v).items (put_change c v).book e ∙ both long refl
      ]
        where
          both : (t : Bool) → long ≡ t → table_full (put_change c v).items (put_change c v).book ≡ long
          both true e = stay_full e ∙ sym e
          both false e = fits_of (put_change c v).items (put_change c v).book (stay_fits e) ∙ sym e

-- how many blocks a change puts of an item whose row is there
pub row_puts : (s : State) (k : Known) (v : Volume) (c : Change) (row : Row) (blocks : List ℕ) → Holds s k v → stays c ≡ true → row_of k.table.rows (item_of_change c) ≡ Some row → ((i : Item) → Means row i → blocks ≡ puts_in c i.held)
    → length (puts_into v.items c) ≡ length blocks
row_puts s k v c row blocks at kind found puts =
    let item = row_holds (cluster_on s.seen) v.book k.table.rows v.items (item_of_change c) row at.rows found in
    ap length (stays_puts c v.items kind ∙ ap (λ (o : Option Item). puts_in c (part (λ i. i.held) [] o)) item.1 ∙ sym (puts item.0 item.2.means))

-- so of a planned change
pub plan_puts : (s : State) (k : Known) (v : Volume) (c : Change) (pin : Pin) (n : Usn) (row planned : Row) (blocks : List ℕ) → Holds s k v → stays c ≡ true → row_of k.table.rows (item_of_change c) ≡ Some row → Plans c pin n row planned blocks
    → length (puts_into v.items c) ≡ length blocks
plan_puts s k v c pin n row planned blocks at kind found plan = row_puts s k v c row blocks at kind found plan.puts

-- the three refusals, in their order
refused_as : (x t f long full : Bool) → x ≡ false → t ≡ long → f ≡ full → (cond x (Some code.Exhausted) (cond t (Some code.TableFull) (cond f (Some code.Full) None))) ≡ cond long (Some code.TableFull) (cond full (Some code.Full) None)
refused_as x t f long full a b c = (λ j. cond (a j) (Some code.Exhausted) (cond (b j) (Some code.TableFull) (cond (c j) (Some code.Full) None)))

pub needs_no_id : (c : Change) → stays c ≡ true → needs_id c ≡ false
needs_no_id (change.Make item parent name kind size identity) s = absurd (true≢false (sym s))
needs_no_id (change.Remove item) s = refl
needs_no_id (change.Move item parent name) s = refl
needs_no_id (change.Write item at bytes) s = refl
needs_no_id (change.Size item size) s = refl
needs_no_id (change.Filled item start bytes) s = refl
needs_no_id (change.Validated item start len) s = refl
needs_no_id (change.Emptied item start len) s = refl
needs_no_id (change.SetPin item state) s = refl
needs_no_id (change.Mark item at) s = refl
needs_no_id (change.Clear item) s = refl
needs_no_id (change.Convert item identity) s = refl
needs_no_id (change.Revert item) s = refl
needs_no_id (change.Rebase item identity len at) s = refl
needs_no_id (change.Take item identity size) s = refl
needs_no_id (change.Copy item from parent name) s = absurd (true≢false (sym s))
needs_no_id (change.Populated item) s = refl
needs_no_id (change.Keep item on) s = refl

-- numbers are left
pub numbers_left : (c : Change) (v : Volume) → needs_id c ≡ false → v.place < most → lacks_numbers v (c ∷ []) ≡ false
numbers_left c v none left = (λ j. le-ltb most (v.place + 1) (omega (arith, left)) j || (none j || false))

pub refusal_is : (c : Change) (v : Volume) (long full : Bool) → lacks_numbers v (c ∷ []) ≡ false → is_table_full c (put_change c v).items (put_change c v).book ≡ long → is_full v.clusters v.items c ≡ full
    → why_no_room (c ∷ []) v ≡ cond long (Some code.TableFull) (cond full (Some code.Full) None)
refusal_is c v long full a b f = refused_as (lacks_numbers v (c ∷ [])) (no_table v (c ∷ [])) (no_blocks v (c ∷ [])) long full a (or_false (is_table_full c (put_change c v).items (put_change c v).book) ∙ b) (or_false (is_full v.clusters v.items c) ∙ f)

-- whether a change has room that finds a number, by the same tests
pub room_is : (c : Change) (v : Volume) (full lacks : Bool) → lacks_numbers v (c ∷ []) ≡ false → is_table_full c (put_change c v).items (put_change c v).book ≡ full → is_full v.clusters v.items c ≡ lacks
    → HasRoomFor (c ∷ []) v (record { places = true; table = not full; blocks = not lacks })
room_is c v full lacks a b f = record {
  places = ap not (sym a);
  table = ap not (sym (or_false (is_table_full c (put_change c v).items (put_change c v).book) ∙ b));
  blocks = ap not (sym (or_false (is_full v.clusters v.items c) ∙ f));
}

-- the refusal of a planned change, by the two tests

module _ (s : State) (k : Known) (v : Volume) (c : Change) (row planned : Row) (blocks : List ℕ) (at : Holds s k v) (rises : RisesFrom 0 k.table.rows) (table : AreTableRows k.table.rows) (kind : stays c ≡ true)
    (found : row_of k.table.rows (item_of_change c) ≡ Some row) (plan : Plans c (pin_for c k.table.rows) (usn_after k.epoch k.place) row planned blocks) (size : ℕ) (size_is : size ≡ len_now k) (long : Bool)
    (test : (n m : ℕ) → IsBelow row.here (4096 * n) → IsBelow planned.here (4096 * m) → long ≡ ltb (1306624 + len_with row (touched row.here 0 n)) (min size 18446744073709551615 + len_with planned (touched planned.here 0 m))) where
  numbered : Plans c (pin_for c k.table.rows) (next_number v) row planned blocks
  numbered = subst (λ (n : Usn). Plans c (pin_for c k.table.rows) n row planned blocks) (λ i. usn_after (at.epoch i) (at.place i)) plan

  abbrev item : (i : Item) × (item_of v.items (item_of_change c) ≡ Some i) × HoldsRow (cluster_on s.seen) v.book row i
  item = here s k v c row at rises table kind found

  abbrev stepped : Item
  stepped = item_effect c (pin_for c k.table.rows) (next_number v) item.0

  now_means : Means planned stepped
  now_means = new_means s k v c row at rises table kind found planned blocks numbered

  abbrev old_len : ℕ
  old_len = len_with row (touched row.here 0 (blocks_in (length item.0.held)))

  abbrev new_len : ℕ
  new_len = len_with planned (touched planned.here 0 (blocks_in (length stepped.held)))

  tested : long ≡ ltb (most_image + old_len) (min size 18446744073709551615 + new_len)
  tested = test (blocks_in (length item.0.held)) (blocks_in (length stepped.held)) (below_blocks row item.0 item.2.means) (below_blocks planned stepped now_means)

  pub refused_fits : long ≡ false → FitsTable (put_change c v).items (put_change c v).book
  refused_fits e = stay_fits s k v c row at rises table kind found planned blocks numbered long (min size 18446744073709551615) old_len new_len
      (image_is s k v c row at rises table kind found size size_is) (old_is s k v c row at rises table kind found) (new_is s k v c row at rises table kind found planned blocks numbered) tested e

  pub table_is : is_table_full c (put_change c v).items (put_change c v).book ≡ long
  table_is = stay_table s k v c row at rises table kind found planned blocks numbered long (min size 18446744073709551615) old_len new_len
      (image_is s k v c row at rises table kind found size size_is) (old_is s k v c row at rises table kind found) (new_is s k v c row at rises table kind found planned blocks numbered) tested

  pub refused_is : k.place < most → why_no_room (c ∷ []) v ≡ cond long (Some code.TableFull) (cond (passes k.limit (how_many is_now k.uses) (length blocks)) (Some code.Full) None)
  refused_is left = refusal_is c v long (passes k.limit (how_many is_now k.uses) (length blocks)) (numbers_left c v (needs_no_id c kind) (omega (arith, left, at.place))) table_is
      (clusters_full s k v c (length blocks) at (plan_puts s k v c (pin_for c k.table.rows) (next_number v) row planned blocks at kind found numbered))

pub needs_room : (s : State) (k : Known) (v : Volume) (c : Change) (row planned : Row) (blocks : List ℕ) → Holds s k v → stays c ≡ true → row_of k.table.rows (item_of_change c) ≡ Some row → Plans c (pin_for c k.table.rows) (usn_after k.epoch k.place) row planned blocks
    → MayWait k (length blocks) → may_need_room c v ≡ true
needs_room s k v c row planned blocks at kind found plan waits =
    room_needed s k v c (length blocks) at (plan_puts s k v c (pin_for c k.table.rows) (usn_after k.epoch k.place) row planned blocks at kind found plan) waits
