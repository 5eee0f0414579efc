-- A change of an item that stays, drafted.
use Rattle.std.proofs.Common.{◌≡◌, ℕ, ◌+◌, ◌*◌, ◌<◌, ◌≤◌, Bool, true, false, cond, eqb, List, [], length, refl, sym, ◌∙◌, ap, subst, arith, Option, Some, None}
use Rattle.std.specs.Prelude.{All, option_map, ◌^◌}
use Rattle.std.proofs.lemmas.Bool.{eqb-true}
use Rattle.cf_base.specs.declared.changes.Change.{Change}
use Rattle.cf_base.specs.declared.changes.Change.TheVariants as change
use Rattle.cf_base.specs.declared.ids.ItemId.{ItemId}
use Rattle.cf_base.specs.declared.ids.Usn.{Usn}
use Rattle.cf_base.specs.declared.items.Pin.{Pin}
use Rattle.cf_volume_blocks.specs.Bytes.{puts_in}
use Rattle.cf_volume_image.specs.declared.contents.Contents.{Contents}
use Rattle.cf_model.specs.Blocks.{blocks_held, blocks_in, blocks_used, puts_into}
use Rattle.cf_model.specs.Books.{Book, anchor_of, aux_records}
use Rattle.cf_model.specs.Changes.{next_number, put_change}
use Rattle.cf_model.specs.Effects.{changed}
use Rattle.cf_model.specs.Images.{image_len, row_len}
use Rattle.cf_model.specs.Items.{Item, item_of}
use Rattle.cf_model.specs.Numbers.{above, usn_after}
use Rattle.cf_model.specs.State.{Volume}
use Rattle.cf_model.specs.Words.{part}
use Rattle.cf_volume_points.proofs.LogSteps.{none_changed, same_item, stays_book, stays_puts}
use Rattle.cf_volume_points.proofs.RowRoom.{length_changed, sum_changed}
use Rattle.cf_volume_points.specs.Standing.{IsBookOf}
use Rattle.cf_ranges.specs.Positions.{IsBelow, touched}
use Rattle.cf_table.proofs.NextChange.{above_through}
use Rattle.cf_table.specs.Applied.{FitsRow, item_effect}
use Rattle.cf_table.specs.Changing.{FitsItem, item_of_change, stays}
use Rattle.cf_table.specs.Means.{KeepsRest, Means, StaysBefore}
use Rattle.cf_table.specs.Tables.{IsStored, RisesFrom, with_row}
use Rattle.cf_table.specs.declared.rows.Row.{Row}
use Rattle.cf_volume_changes.proofs.DraftItems.{effect_items, item_changed, item_holds, item_id, items_fit, order_changed, order_rises, pin_moved}
use Rattle.cf_volume_changes.proofs.DraftRows.{all_on, drawn, drawn_at, drawn_below, drawn_blocks, drawn_fits, drawn_len, drawn_none, moved_pin, row_put}
use Rattle.cf_volume_changes.proofs.NotThere.{unchanged}
use Rattle.cf_volume_changes.proofs.Shifted.{shift_rises, shifted_effect}
use Rattle.cf_volume_changes.specs.Drafting.{HasPlace, pin_drafted}
use Rattle.cf_volume_changes.specs.Drafts.{AreInOrder, Drafts, Draws, DrawsRow, IsLow, added, records_in, row_in, row_sizes, shifted, shifted_item}
use Rattle.cf_volume_changes.specs.RoomLeft.{FitsAmong}
use Rattle.cf_volume_changes.specs.declared.room.drafts.Sizes.{Sizes}
use Rattle.cf_volume_changes.specs.declared.room.drafts.Draft.{Draft}

-- the number of an item is its own, or the change's
number_low : (c : Change) (pin : Pin) (n : Usn) (i : Item) (e : ℕ) → i.number.epoch ≤ e → n.epoch ≤ e → (item_effect c pin n i).number.epoch ≤ e
number_low (change.Make item parent name kind size identity) pin n i e a b = a
number_low (change.Remove item) pin n i e a b = a
number_low (change.Move item parent name) pin n i e a b = b
number_low (change.Write item at bytes) pin n i e a b = b
number_low (change.Size item size) pin n i e a b = b
number_low (change.Filled item start bytes) pin n i e a b = a
number_low (change.Validated item start len) pin n i e a b = a
number_low (change.Emptied item start len) pin n i e a b = a
number_low (change.SetPin item state) pin n i e a b = a
number_low (change.Mark item number) pin n i e a b = a
number_low (change.Clear item) pin n i e a b = a
number_low (change.Convert item identity) pin n i e a b = b
number_low (change.Revert item) pin n i e a b = b
number_low (change.Rebase item identity len at) pin n i e a b = a
number_low (change.Take item identity size) pin n i e a b = b
number_low (change.Copy item from parent name) pin n i e a b = a
number_low (change.Populated item) pin n i e a b = a
number_low (change.Keep item on) pin n i e a b = a

-- the item is there, and the change fits its row
module _ (c : Contents) (d : Draft) (w : Volume) (ch : Change) (row : Row) (n : Usn) (drafts : Drafts c d w) (kind : stays ch ≡ true) (fits : FitsAmong ch w.book w.items) (place : HasPlace ch)
    (found : row_in d c.rows.rows (item_of_change ch) ≡ Some row) (n_is : n ≡ shifted w.epoch (next_number w)) where
  met : (i : Item) × (item_of w.items (item_of_change ch) ≡ Some i) × DrawsRow w.epoch (next_number w) w.book row i
  met = drawn w.epoch (next_number w) w.book (row_in d c.rows.rows (item_of_change ch)) (item_of w.items (item_of_change ch)) row (drafts.rows (item_of_change ch)) found

  pub stay_fits : FitsRow ch row
  stay_fits = drawn_fits w.epoch (next_number w) w.book row met.0 met.2 ch
      (item_holds (λ (i : Item). i.id.0 ≡ (item_of_change ch).0 → FitsItem ch w.book i) w.items (item_of_change ch) met.0 (items_fit ch w.book w.items kind fits) met.1 (item_id w.items (item_of_change ch) met.0 met.1)) place

-- no item is there
module _ (c : Contents) (d : Draft) (w : Volume) (ch : Change) (drafts : Drafts c d w) (kind : stays ch ≡ true) (none : row_in d c.rows.rows (item_of_change ch) ≡ None) where
  no_item : item_of w.items (item_of_change ch) ≡ None
  no_item = drawn_none w.epoch (next_number w) w.book (row_in d c.rows.rows (item_of_change ch)) (item_of w.items (item_of_change ch)) (drafts.rows (item_of_change ch)) none

  same_items : (put_change ch w).items ≡ w.items
  same_items = effect_items ch (next_number w) w.items kind ∙ unchanged (item_of_change ch) (item_effect ch (pin_moved w.items ch) (next_number w)) w.items no_item

  same_book : (put_change ch w).book ≡ w.book
  same_book = stays_book ch w.book kind

  pub none_asks : length (puts_in ch []) ≡ length (puts_into w.items ch)
  none_asks = sym (ap length (stays_puts ch w.items kind ∙ ap (λ (o : Option Item). puts_in ch (part (λ i. i.held) [] o)) no_item))

  pub none_drafts : Drafts c d (put_change ch w)
  none_drafts = record {
    rise = subst (AreInOrder 0) (sym same_items) drafts.rise;
    gone = drafts.gone;
    rows = λ key. subst (λ (b : Book). Draws w.epoch (usn_after w.epoch (w.place + 1)) b (row_in d c.rows.rows key) (item_of (put_change ch w).items key)) (sym same_book)
        (subst (λ (l : List Item). Draws w.epoch (usn_after w.epoch (w.place + 1)) w.book (row_in d c.rows.rows key) (item_of l key)) (sym same_items)
        (all_on w.epoch w.place w.book (row_in d c.rows.rows key) (item_of w.items key) (drafts.rows key)));
    book = subst (λ (b : Book). IsBookOf (put_change ch w).items b) (sym same_book) (subst (λ (l : List Item). IsBookOf l w.book) (sym same_items) drafts.book);
    records = ap aux_records same_book ∙ drafts.records;
    bytes = drafts.bytes ∙ ap (λ (m : ℕ). m + d.less.bytes) (λ j. image_len (sym same_items j) (sym same_book j));
    items = drafts.items ∙ ap (λ (l : List Item). length l + d.less.items) (sym same_items);
    blocks = drafts.blocks ∙ ap (λ (l : List Item). blocks_used l + d.less.blocks) (sym same_items);
  }

-- the item is there

module _ (c : Contents) (d e : Draft) (w : Volume) (ch : Change) (row p : Row) (pin : Pin) (n : Usn) (blocks : List ℕ) (drafts : Drafts c d w) (kind : stays ch ≡ true) (fits : FitsAmong ch w.book w.items) (place : HasPlace ch)
    (found : row_in d c.rows.rows (item_of_change ch) ≡ Some row) (stored : IsStored row) (pin_is : pin ≡ pin_drafted d c.rows.rows ch) (n_is : n ≡ shifted w.epoch (next_number w))
    (means : (i : Item) → Means row i → Means p (item_effect ch pin n i)) (rest : KeepsRest row p) (later : StaysBefore n row p) (after_stored : IsStored p) (puts : (i : Item) → Means row i → blocks ≡ puts_in ch i.held)
    (rises : RisesFrom 0 d.changed.rows) (changed_is : e.changed.rows ≡ with_row p d.changed.rows) (gone_is : e.gone ≡ d.gone)
    (less : (m : ℕ) → IsBelow row.here (4096 * m) → e.less ≡ added d.less (row_sizes row (touched row.here 0 m)))
    (more : (m : ℕ) → IsBelow p.here (4096 * m) → e.more ≡ added d.more (row_sizes p (touched p.here 0 m))) where
  abbrev id : ItemId
  id = item_of_change ch

  abbrev number : Usn
  number = next_number w

  there : (i : Item) × (item_of w.items id ≡ Some i) × DrawsRow w.epoch number w.book row i
  there = drawn w.epoch number w.book (row_in d c.rows.rows id) (item_of w.items id) row (drafts.rows id) found

  abbrev item : Item
  item = there.0

  abbrev step : Item → Item
  step i = item_effect ch (pin_moved w.items ch) number i

  item_fits : FitsItem ch w.book item
  item_fits = item_holds (λ (i : Item). i.id.0 ≡ id.0 → FitsItem ch w.book i) w.items id item (items_fit ch w.book w.items kind fits) there.1 (item_id w.items id item there.1)

  items_are : (put_change ch w).items ≡ changed id step w.items
  items_are = effect_items ch number w.items kind

  book_is : (put_change ch w).book ≡ w.book
  book_is = stays_book ch w.book kind

  keeps_id : (i : Item) → (step i).id ≡ i.id
  keeps_id = same_item ch (pin_moved w.items ch) number

  new_means : Means p (shifted_item w.epoch (step item))
  new_means = subst (Means p)
      ((λ k. item_effect ch ((pin_is ∙ moved_pin c d w ch drafts) k) (n_is k) (shifted_item w.epoch item)) ∙ shifted_effect w.epoch ch (pin_moved w.items ch) number item (drawn_at w.epoch number w.book row item there.2 ch item_fits place))
      (means (shifted_item w.epoch item) there.2.means)

  new_draws : DrawsRow w.epoch (usn_after w.epoch (w.place + 1)) w.book p (step item)
  new_draws = record {
    means = new_means;
    anchor = rest.anchor ∙ there.2.anchor ∙ ap (λ (k : ItemId). anchor_of w.book k) (sym (keeps_id item));
    later = record {
      number = later (shifted w.epoch (usn_after w.epoch (w.place + 1)))
          (above_through row.number (shifted w.epoch number) (shifted w.epoch (usn_after w.epoch (w.place + 1))) there.2.later.number (shift_rises w.epoch w.place))
          (ap (λ (m : Usn). above (shifted w.epoch (usn_after w.epoch (w.place + 1))) m) n_is ∙ shift_rises w.epoch w.place);
      anchor = ap (λ (m : Usn). above (shifted w.epoch (usn_after w.epoch (w.place + 1))) m) rest.anchor
          ∙ above_through row.anchor (shifted w.epoch number) (shifted w.epoch (usn_after w.epoch (w.place + 1))) there.2.later.anchor (shift_rises w.epoch w.place);
    };
    low = subst (IsLow w.epoch) (sym rest.anchor) there.2.low;
    numbered = number_low ch (pin_moved w.items ch) number item w.epoch there.2.numbered (omega arith);
  }

  id_is : p.id.0 ≡ id.0
  id_is = ap (λ (k : ItemId). k.0) new_means.id ∙ ap (λ (k : ItemId). k.0) (keeps_id item) ∙ item_id w.items id item there.1

  same_key : (key : ItemId) → id.0 ≡ key.0 → item_of w.items key ≡ Some item
  same_key key at = subst (λ (k : ItemId). item_of w.items k ≡ Some item) (λ j. record { 0 = at j }) there.1

  rows_after : (key : ItemId) → Draws w.epoch (usn_after w.epoch (w.place + 1)) w.book (row_in e c.rows.rows key) (item_of (changed id step w.items) key)
  rows_after key =
      subst (λ (o : Option Row). Draws w.epoch (usn_after w.epoch (w.place + 1)) w.book o (item_of (changed id step w.items) key)) (sym (row_put d e c.rows.rows p key rises changed_is (λ j. (gone_is j).items)))
      (subst (λ (q : Option Item). Draws w.epoch (usn_after w.epoch (w.place + 1)) w.book (cond (eqb p.id.0 key.0) (Some p) (row_in d c.rows.rows key)) q) (sym (item_changed id key step w.items keeps_id))
      (subst (λ (m : ℕ). Draws w.epoch (usn_after w.epoch (w.place + 1)) w.book (cond (eqb m key.0) (Some p) (row_in d c.rows.rows key)) (cond (eqb id.0 key.0) (option_map step (item_of w.items key)) (item_of w.items key))) (sym id_is)
      (by (eqb id.0 key.0) refl)))
    where
      by : (t : Bool) → eqb id.0 key.0 ≡ t → Draws w.epoch (usn_after w.epoch (w.place + 1)) w.book (cond t (Some p) (row_in d c.rows.rows key)) (cond t (option_map step (item_of w.items key)) (item_of w.items key))
      by true q = subst (λ (o : Option Item). Draws w.epoch (usn_after w.epoch (w.place + 1)) w.book (Some p) (option_map step o)) (sym (same_key key (eqb-true id.0 key.0 q))) new_draws
      by false q = all_on w.epoch w.place w.book (row_in d c.rows.rows key) (item_of w.items key) (drafts.rows key)

  old_less : e.less ≡ added d.less (row_sizes row (touched row.here 0 (blocks_in (length item.held))))
  old_less = less (blocks_in (length item.held)) (drawn_below w.epoch number w.book row item there.2 stored)

  new_more : e.more ≡ added d.more (row_sizes p (touched p.here 0 (blocks_in (length (step item).held))))
  new_more = more (blocks_in (length (step item).held)) (drawn_below w.epoch (usn_after w.epoch (w.place + 1)) w.book p (step item) new_draws after_stored)

  pub stay_asks : length blocks ≡ length (puts_into w.items ch)
  stay_asks = ap length (puts (shifted_item w.epoch item) there.2.means ∙ sym (stays_puts ch w.items kind ∙ ap (λ (o : Option Item). puts_in ch (part (λ i. i.held) [] o)) there.1))

  pub stay_drafts : Drafts c e (put_change ch w)
  stay_drafts = record {
    rise = subst (AreInOrder 0) (sym items_are) (order_changed 0 id step w.items keeps_id drafts.rise);
    gone = subst (λ (l : List ItemId). All (λ g. g.0 < 2 ^ 64) l) (sym (λ j. (gone_is j).items)) drafts.gone;
    rows = λ key. subst (λ (b : Book). Draws w.epoch (usn_after w.epoch (w.place + 1)) b (row_in e c.rows.rows key) (item_of (put_change ch w).items key)) (sym book_is)
        (subst (λ (l : List Item). Draws w.epoch (usn_after w.epoch (w.place + 1)) w.book (row_in e c.rows.rows key) (item_of l key)) (sym items_are) (rows_after key));
    book = subst (λ (b : Book). IsBookOf (put_change ch w).items b) (sym book_is) (subst (λ (l : List Item). IsBookOf l w.book) (sym items_are) (λ key none. drafts.book key (none_changed id step w.items key keeps_id none)));
    records = ap aux_records book_is ∙ drafts.records ∙ ap (λ (l : List ItemId). records_in l c.records) (sym (λ j. (gone_is j).items));
    bytes =
        let sums = sum_changed (row_len w.book) step id 0 w.items item (order_rises 0 w.items drafts.rise) there.1 in
        let old = drawn_len w.epoch number w.book row item there.2 stored in
        let new = drawn_len w.epoch (usn_after w.epoch (w.place + 1)) w.book p (step item) new_draws after_stored in
        let image : image_len (put_change ch w).items (put_change ch w).book ≡ image_len (changed id step w.items) w.book = (λ j. image_len (items_are j) (book_is j)) in
        omega (arith, sums, old, new, image, ap (λ (z : Sizes). z.bytes) old_less, ap (λ (z : Sizes). z.bytes) new_more, drafts.bytes);
    items =
        let count = ap length items_are ∙ length_changed step id w.items in
        omega (arith, count, ap (λ (z : Sizes). z.items) old_less, ap (λ (z : Sizes). z.items) new_more, drafts.items);
    blocks =
        let sums = sum_changed (λ i. blocks_held i.held) step id 0 w.items item (order_rises 0 w.items drafts.rise) there.1 in
        let old = drawn_blocks w.epoch number w.book row item there.2 stored in
        let new = drawn_blocks w.epoch (usn_after w.epoch (w.place + 1)) w.book p (step item) new_draws after_stored in
        let used = ap blocks_used items_are in
        omega (arith, sums, old, new, used, ap (λ (z : Sizes). z.blocks) old_less, ap (λ (z : Sizes). z.blocks) new_more, drafts.blocks);
  }
