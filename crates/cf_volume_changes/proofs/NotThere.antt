-- A change of an item that is not there.
use Rattle.std.proofs.Common.{◌≡◌, ℕ, zero, suc, ◌+◌, ◌-◌, ◌*◌, ◌/◌, ◌<◌, Bool, true, false, cond, eqb, max, min, List, [], ◌∷◌, length, take, drop, refl, sym, ◌∙◌, ap, subst, arith, Option, Some, None}
use Rattle.std.specs.Prelude.{MatchOption, filter, is_some, not}
use Rattle.std.specs.List.{list_all}
use Rattle.std.proofs.lemmas.Bool.{cond-false}
use Rattle.std.proofs.lemmas.List.{length-append}
use Rattle.std.proofs.lemmas.Option.{none-some}
use Rattle.cf_base.specs.declared.changes.Change.{Change}
use Rattle.cf_base.specs.declared.changes.Change.TheVariants as change
use Rattle.cf_base.specs.declared.codes.Code.TheVariants as code
use Rattle.cf_base.specs.declared.ids.ItemId.{ItemId}
use Rattle.cf_base.specs.declared.ids.Usn.{Usn}
use Rattle.cf_volume_blocks.specs.Bytes.{puts_in}
use Rattle.cf_clusters.specs.Roles.{how_many, is_now}
use Rattle.cf_disk.specs.Disk.{State}
use Rattle.cf_model.specs.Blocks.{blocks_of, lacks_in, puts_into}
use Rattle.cf_model.specs.Books.{Book, aux_records}
use Rattle.cf_model.specs.Changes.{next_number, put_change, why_no_room}
use Rattle.cf_model.specs.Effects.{changed}
use Rattle.cf_model.specs.Images.{is_table_full, never_longer, table_full}
use Rattle.cf_model.specs.Items.{Item, item_of}
use Rattle.cf_model.specs.Logs.{next_by}
use Rattle.cf_model.specs.Numbers.{most}
use Rattle.cf_model.specs.State.{Volume}
use Rattle.cf_model.specs.Words.{counting, part}
use Rattle.cf_volume_points.proofs.Counted.{used_now}
use Rattle.cf_volume_points.proofs.ItemChanges.{rows_mean}
use Rattle.cf_volume_points.proofs.LogSteps.{next_least, put_of_log, same_front, stays_book, stays_next, stays_puts}
use Rattle.cf_volume_points.proofs.RowRoom.{fits_of}
use Rattle.cf_volume_points.specs.At.{At, Kept}
use Rattle.cf_volume_points.specs.Holding.{CountsMore, FitsTable, HoldRows}
use Rattle.cf_volume_points.specs.Known.{Known}
use Rattle.cf_volume_points.specs.Standing.{IsBookOf, cluster_on}
use Rattle.cf_table.proofs.Lengths.{rows_are_items}
use Rattle.cf_table.proofs.StayingRows.{effect_is}
use Rattle.cf_table.specs.Applied.{item_effect}
use Rattle.cf_table.specs.Changing.{item_of_change, pin_for, stays}
use Rattle.cf_table.specs.Means.{Means}
use Rattle.cf_table.specs.Tables.{row_of}
use Rattle.cf_table.specs.declared.rows.Row.{Row}
use Rattle.cf_volume_changes.proofs.Judged.{needs_no_id, numbers_left, passes_is, refusal_is}
use Rattle.cf_volume_changes.specs.Waits.{passes}

-- blocks from the start of a file on

counting_length : (first n : ℕ) → length (counting first n) ≡ n
counting_length first zero = refl
counting_length first (suc n) = ap suc (counting_length (first + 1) n)

pub blocks_counted : (bytes : ℕ) → length (blocks_of 0 bytes) ≡ (bytes + 4095) / 4096
blocks_counted zero = refl
blocks_counted (suc n) = counting_length (0 / 4096) ((0 + n) / 4096 + 1 - 0 / 4096) ∙ (let e : (0 + n) / 4096 + 1 - 0 / 4096 ≡ (suc n + 4095) / 4096 = omega arith in e)

-- an empty file lacks no byte

drop_nil : (n : ℕ) → drop {A = Option ℕ} n [] ≡ []
drop_nil zero = refl
drop_nil (suc n) = refl

take_nil : (n : ℕ) → take {A = Option ℕ} n [] ≡ []
take_nil zero = refl
take_nil (suc n) = refl

nothing_lacks : (start end b : ℕ) → lacks_in start end [] b ≡ false
nothing_lacks start end b =
    let from : ℕ = max start (4096 * b) in
    let to : ℕ = min end (4096 * b + 4096) in
    ap (λ (l : List (Option ℕ)). not (list_all is_some l)) (ap (take (to - from)) (drop_nil from) ∙ take_nil (to - from))

none_lack : (start end : ℕ) (bs : List ℕ) → filter (lacks_in start end []) bs ≡ []
none_lack start end [] = refl
none_lack start end (b ∷ bs) = cond-false (lacks_in start end [] b) (b ∷ filter (lacks_in start end []) bs) (filter (lacks_in start end []) bs) (nothing_lacks start end b) ∙ none_lack start end bs

-- what neither writes nor sizes puts nothing into an empty file
pub others_none : (c : Change) → ((item : ItemId) (at : ℕ) (bytes : List ℕ) → c ≡ change.Write item at bytes → ⊥) → ((item : ItemId) (size : ℕ) → c ≡ change.Size item size → ⊥) → puts_in c [] ≡ []
others_none (change.Make item parent name kind size identity) w s = refl
others_none (change.Remove item) w s = refl
others_none (change.Move item parent name) w s = refl
others_none (change.Write item at bytes) w s = absurd (w item at bytes refl)
others_none (change.Size item size) w s = absurd (s item size refl)
others_none (change.Filled item start bytes) w s = none_lack start (start + length bytes) (blocks_of start (length bytes))
others_none (change.Validated item start len) w s = refl
others_none (change.Emptied item start len) w s = refl
others_none (change.SetPin item state) w s = refl
others_none (change.Mark item number) w s = refl
others_none (change.Clear item) w s = refl
others_none (change.Convert item identity) w s = refl
others_none (change.Revert item) w s = refl
others_none (change.Rebase item identity len at) w s = refl
others_none (change.Take item identity size) w s = refl
others_none (change.Copy item from parent name) w s = refl
others_none (change.Populated item) w s = refl
others_none (change.Keep item on) w s = refl

pub unchanged : (key : ItemId) (f : Item → Item) (items : List Item) → item_of items key ≡ None → changed key f items ≡ items
unchanged key f [] e = refl
unchanged key f (i ∷ is) e = by (eqb i.id.0 key.0) e (unchanged key f is)
  where
    by : (t : Bool) → cond t (Some i) (item_of is key) ≡ None → (item_of is key ≡ None → changed key f is ≡ is) → cond t (f i) i ∷ changed key f is ≡ i ∷ is
    by true h rest = absurd (none-some i (sym h))
    by false h rest = ap (λ (l : List Item). i ∷ l) (rest h)

module _ (s : State) (k : Known) (v : Volume) (c : Change) (at : At s k v) (kind : stays c ≡ true) (none : row_of k.table.rows (item_of_change c) ≡ None) where
  no_item : item_of v.items (item_of_change c) ≡ None
  no_item = subst (λ (o : Option Row). MatchOption o (item_of v.items (item_of_change c) ≡ None) (λ r. (i : Item) × (item_of v.items (item_of_change c) ≡ Some i) × Means r i)) none
      (rows_are_items k.table.rows v.items (item_of_change c) (rows_mean (cluster_on s.seen) v.book k.table.rows v.items at.now.rows))

  items_are : (put_change c v).items ≡ v.items
  items_are = sym (effect_is c (next_number v) k.table.rows v.items kind (rows_mean (cluster_on s.seen) v.book k.table.rows v.items at.now.rows))
      ∙ unchanged (item_of_change c) (item_effect c (pin_for c k.table.rows) (next_number v)) v.items no_item

  book_is : (put_change c v).book ≡ v.book
  book_is = stays_book c v.book kind

  puts : puts_into v.items c ≡ puts_in c []
  puts = stays_puts c v.items kind ∙ ap (λ (o : Option Item). puts_in c (part (λ i. i.held) [] o)) no_item

  still_fits : FitsTable (put_change c v).items (put_change c v).book
  still_fits = subst (λ (b : Book). FitsTable (put_change c v).items b) (sym book_is) (subst (λ (l : List Item). FitsTable l v.book) (sym items_are) at.now.fits)

  not_full : is_table_full c (put_change c v).items (put_change c v).book ≡ false
  not_full = by (never_longer c)
    where
      by : (t : Bool) → cond t false (table_full (put_change c v).items (put_change c v).book) ≡ false
      by true = refl
      by false = fits_of (put_change c v).items (put_change c v).book still_fits

  pub absent_why : (full : Bool) → full ≡ passes k.limit (how_many is_now k.uses) (length (puts_in c [])) → k.place < most → why_no_room (c ∷ []) v ≡ cond full (Some code.Full) None
  absent_why full test left =
      let used = used_now (cluster_on s.seen) v.book k.table.rows v.items k.uses at.now.rows at.now.owns in
      refusal_is c v false full (numbers_left c v (needs_no_id c kind) (omega (arith, left, at.now.place))) not_full
      (passes_is v.clusters v.items (length (puts_into v.items c)) ∙ (λ j. passes (at.now.clusters j) (used j) (length (puts j))) ∙ sym test)

  -- how many blocks it puts
  pub absent_puts : length (puts_into v.items c) ≡ length (puts_in c [])
  absent_puts = ap length puts

  pub absent_at : (since : ℕ) → CountsMore k.put_since (length (puts_in c [])) since → At s (record k { place = k.place + 1; count = k.count + 1; put_since = since }) (put_change c v)
  absent_at since counts = record {
    last = record {
      point = at.last.point;
      earlier = at.last.earlier;
      points_are = at.last.points_are;
      early = let e = length-append v.log ((next_number v, c) ∷ []) in omega (arith, e, at.last.early);
      count = at.last.count;
      clock = at.last.clock;
      image = at.last.image;
      next = at.last.next;
      kept = subst (λ (l : List (Usn × Change)). Kept s k.journal k.uses v.epoch l at.last.point.book at.last.image) (sym (same_front at.last.point.count v.log (next_number v, c) at.last.early)) at.last.kept;
      known = record { rows = at.last.known.rows; records = at.last.known.records };
    };
    now = record {
      rows = subst (λ (b : Book). HoldRows (cluster_on s.seen) b k.table.rows (put_change c v).items) (sym book_is) (subst (λ (l : List Item). HoldRows (cluster_on s.seen) v.book k.table.rows l) (sym items_are) at.now.rows);
      owns = at.now.owns;
      of_log = put_of_log c v at.now.of_log;
      next = let least = next_least v.log in let of = at.now.of_log.1 in let by = stays_next c kind in let e : v.next_item.0 ≡ max v.next_item.0 (next_by c) = omega (arith, least, of, by) in at.now.next ∙ (λ j. record { 0 = e j });
      count = let e = length-append v.log ((next_number v, c) ∷ []) in omega (arith, e, at.now.count);
      epoch = at.now.epoch;
      place = ap (λ (m : ℕ). m + 1) at.now.place;
      clock = at.now.clock ∙ ap (λ (b : Book). b.clock) (sym book_is);
      records = at.now.records ∙ ap aux_records (sym book_is);
      book = subst (λ (b : Book). IsBookOf (put_change c v).items b) (sym book_is) (subst (λ (l : List Item). IsBookOf l v.book) (sym items_are) at.now.book);
      clusters = at.now.clusters;
      within = at.now.within;
      fits = still_fits;
      used = omega (arith, at.now.used);
      load = omega (arith, at.now.load, counts.most, absent_puts);
      exact = λ small. let more = counts.exact small in omega (arith, more, at.now.exact (omega (arith, more, small)), absent_puts);
    };
  }
