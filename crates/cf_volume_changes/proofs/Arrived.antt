-- Whether there is room for a new item.
use Rattle.std.proofs.Common.{◌≡◌, ℕ, ◌+◌, ◌*◌, ◌<◌, Bool, true, false, ◌||◌, cond, ltb, List, [], ◌∷◌, ◌++◌, length, min, refl, sym, ◌∙◌, ap, subst, arith, Option, Some, None}
use Rattle.std.specs.Prelude.{All, sum_by}
use Rattle.std.proofs.lemmas.Bool.{le-ltb, ltb-false, ltb-true, true≢false}
use Rattle.std.proofs.lemmas.List.{length-append}
use Rattle.cf_base.specs.declared.changes.Change.{Change}
use Rattle.cf_base.specs.declared.codes.Code.TheVariants as code
use Rattle.cf_base.specs.declared.ids.ItemId.{ItemId}
use Rattle.cf_base.specs.declared.ids.Usn.{Usn}
use Rattle.cf_base.specs.declared.items.Kind.{Kind}
use Rattle.cf_base.specs.declared.changes.Change.TheVariants as change
use Rattle.cf_clusters.specs.Roles.{how_many, is_now}
use Rattle.cf_disk.specs.Disk.{State}
use Rattle.cf_model.specs.Blocks.{blocks_in, puts_into}
use Rattle.cf_model.specs.Books.{Book, anchor_of}
use Rattle.cf_model.specs.Changes.{next_number, put_change, why_no_room}
use Rattle.cf_model.specs.Effects.{copied, copies, made, size_made}
use Rattle.cf_model.specs.Images.{aux_len, image_len, is_table_full, most_image, row_len, table_full}
use Rattle.cf_model.specs.Items.{Item, item_of, pin_of}
use Rattle.cf_model.specs.Numbers.{most, most_items, no_usn, usn_after}
use Rattle.cf_model.specs.State.{Volume}
use Rattle.cf_model.specs.Words.{part}
use Rattle.cf_volume_points.proofs.ItemChanges.{row_holds, rows_mean}
use Rattle.cf_volume_points.proofs.NewItems.{no_item}
use Rattle.cf_volume_points.proofs.RowRoom.{AreEven, below_blocks, blocks_counted, even_items, fits_of, full_of_many, held_count, held_len, last_fits, last_full, planned_len}
use Rattle.cf_volume_points.specs.Holding.{FitsTable, Holds}
use Rattle.cf_volume_points.specs.Known.{Known}
use Rattle.cf_volume_points.specs.Lengths.{len_with}
use Rattle.cf_volume_points.specs.Sound.{len_now}
use Rattle.cf_volume_points.specs.Standing.{cluster_on}
use Rattle.cf_ranges.specs.Positions.{IsBelow, touched}
use Rattle.cf_table.proofs.TableMeans.{same_pin}
use Rattle.cf_table.specs.Means.{Means}
use Rattle.cf_table.specs.Tables.{AreTableRows, IsStored, pin_at, row_of}
use Rattle.cf_table.specs.declared.rows.Row.{Row}
use Rattle.cf_volume_changes.specs.Waits.{passes}
use Rattle.cf_volume_changes.proofs.Judged.{clusters_full, may_be_full, numbers_left, refusal_is}
use Rattle.cf_volume_changes.specs.NewRows.{Arrives, IsCopied, IsMade}

even_last : (items : List Item) (i : Item) → AreEven items → length i.valid ≡ length i.held → AreEven (items ++ i ∷ [])
even_last [] i e last = (last, tt)
even_last (x ∷ xs) i e last = (e.0, even_last xs i e.1 last)

or_false : (a b : Bool) → (a || b) ≡ false → (a ≡ false) × (b ≡ false)
or_false true b e = absurd (true≢false e)
or_false false b e = (refl, e)

module _ (s : State) (k : Known) (v : Volume) (c : Change) (row : Row) (i : Item) (at : Holds s k v) (table : AreTableRows k.table.rows) (above : All (λ r. r.id.0 < row.id.0) k.table.rows)
    (arrives : Arrives c v row i) (anchor : row.anchor ≡ no_usn) (stored : IsStored row) (size : ℕ) (size_is : size ≡ len_now k) (lacks : Bool)
    (test : (m : ℕ) → IsBelow row.here (4096 * m) → lacks ≡ (ltb 10000 (length k.table.rows + 1) || ltb 1306624 (min size 18446744073709551615 + len_with row (touched row.here 0 m)))) where
  abbrev new : ℕ
  new = len_with row (touched row.here 0 (blocks_in (length i.held)))

  abbrev image : ℕ
  image = min size 18446744073709551615

  means : Means row i
  means = arrives.means

  no_one : item_of v.items row.id ≡ None
  no_one = no_item (cluster_on s.seen) v.book k.table.rows v.items row.id above at.rows

  image_is : image ≡ image_len v.items v.book
  image_is =
      let rows = held_len (cluster_on s.seen) v.book k.table.rows v.items table at.rows in
      let records = ap (sum_by aux_len) at.records in
      let short = at.fits.short in
      omega (arith, size_is, rows, records, short)

  new_is : new ≡ row_len v.book i
  new_is = ap (len_with row) (blocks_counted row i stored.here means)
      ∙ planned_len v.book row i stored means (anchor ∙ sym (ap (anchor_of v.book) (sym means.id) ∙ (at.book row.id no_one).0))

  tested : lacks ≡ (ltb 10000 (length k.table.rows + 1) || ltb most_image (image + new))
  tested = test (blocks_in (length i.held)) (below_blocks row i means)

  count : length k.table.rows ≡ length v.items
  count = held_count (cluster_on s.seen) v.book k.table.rows v.items at.rows

  pub arrival_fits : lacks ≡ false → FitsTable (put_change c v).items (put_change c v).book
  arrival_fits e =
      let both = or_false (ltb 10000 (length k.table.rows + 1)) (ltb most_image (image + new)) (sym tested ∙ e) in
      subst (λ (b : Book). FitsTable (put_change c v).items b) (sym arrives.book) (subst (λ (l : List Item). FitsTable l v.book) (sym arrives.items)
      (last_fits v.items v.book i new image at.fits image_is new_is both.1 (omega (arith, count, ltb-false 10000 (length k.table.rows + 1) both.0))))

  full_by : (few : Bool) → ltb 10000 (length k.table.rows + 1) ≡ few → (few || ltb most_image (image + new)) ≡ true → table_full (v.items ++ i ∷ []) v.book ≡ true
  full_by true f e = full_of_many (v.items ++ i ∷ []) v.book (omega (arith, count, length-append v.items (i ∷ []), ltb-true 10000 (length k.table.rows + 1) f))
  full_by false f e = last_full v.items v.book i new image at.fits image_is new_is (even_last v.items i (even_items (cluster_on s.seen) v.book k.table.rows v.items at.rows) means.bytes.even) e

  arrival_full : lacks ≡ true → table_full (put_change c v).items (put_change c v).book ≡ true
  arrival_full e = (λ j. table_full (arrives.items j) (arrives.book j)) ∙ full_by (ltb 10000 (length k.table.rows + 1)) refl (sym tested ∙ e)

  arrival_table : is_table_full c (put_change c v).items (put_change c v).book ≡ lacks
  arrival_table = may_be_full c (put_change c v).items (put_change c v).book arrives.longer ∙ both lacks refl
    where
      both : (t : Bool) → lacks ≡ t → table_full (put_change c v).items (put_change c v).book ≡ lacks
      both true e = arrival_full e ∙ sym e
      both false e = fits_of (put_change c v).items (put_change c v).book (arrival_fits e) ∙ sym e

  pub arrival_refused : (blocks : ℕ) → length (puts_into v.items c) ≡ blocks → k.place < most → row.id.0 < 18446744073709551615
      → why_no_room (c ∷ []) v ≡ cond lacks (Some code.TableFull) (cond (passes k.limit (how_many is_now k.uses) blocks) (Some code.Full) None)
  arrival_refused blocks puts left low =
      refusal_is c v lacks (passes k.limit (how_many is_now k.uses) blocks) (numbers_left c v (arrives.id ∙ le-ltb most_items row.id.0 (omega (arith, low))) (omega (arith, left, at.place))) arrival_table (clusters_full s k v c blocks at puts)

-- a Make arrives

pub make_arrives : (s : State) (k : Known) (v : Volume) (row : Row) (item parent : ItemId) (name : List ℕ) (kind : Kind) (size : ℕ) (identity : List ℕ) (number : Usn) → Holds s k v → number ≡ usn_after k.epoch k.place
    → Means row (made item parent name kind size identity (pin_at k.table.rows parent) number)
    → IsMade (change.Make item parent name kind size identity) v row (made item parent name kind size identity (pin_of v.items parent) (next_number v)) (size_made kind size)
make_arrives s k v row item parent name kind size identity number at is means =
    let numbered : number ≡ next_number v = is ∙ (λ j. usn_after (at.epoch j) (at.place j)) in
    let pinned = same_pin k.table.rows v.items parent (rows_mean (cluster_on s.seen) v.book k.table.rows v.items at.rows) in
    let here : Means row (made item parent name kind size identity (pin_of v.items parent) (next_number v)) = subst (λ (x : Item). Means row x) (λ j. made item parent name kind size identity (pinned j) (numbered j)) means in
    record {
      arrives = record { means = here; items = refl; book = refl; next = ap (λ (x : ItemId). x.0 + 1) (sym here.id); longer = refl; id = ap (λ (x : ItemId). ltb most_items x.0) (sym here.id) };
      held = refl;
      puts = refl;
    }

-- a Copy arrives
pub copy_arrives : (s : State) (k : Known) (v : Volume) (row source : Row) (item from parent : ItemId) (name : List ℕ) (number : Usn) → (at : Holds s k v) → number ≡ usn_after k.epoch k.place → row_of k.table.rows from ≡ Some source
    → ((i : Item) → Means source i → Means row (copied item parent name (pin_at k.table.rows parent) number i)) → (i : Item) × IsCopied (change.Copy item from parent name) v row i from
copy_arrives s k v row source item from parent name number at is found means =
    let numbered : number ≡ next_number v = is ∙ (λ j. usn_after (at.epoch j) (at.place j)) in
    let pinned = same_pin k.table.rows v.items parent (rows_mean (cluster_on s.seen) v.book k.table.rows v.items at.rows) in
    let old = row_holds (cluster_on s.seen) v.book k.table.rows v.items from source at.rows found in
    let here : Means row (copied item parent name (pin_of v.items parent) (next_number v) old.0) = subst (λ (x : Item). Means row x) (λ j. copied item parent name (pinned j) (numbered j) old.0) (means old.0 old.2.means) in (
      copied item parent name (pin_of v.items parent) (next_number v) old.0,
      record {
        arrives = record {
          means = here;
          items = ap (λ (o : Option Item). v.items ++ copies item parent name (pin_of v.items parent) (next_number v) o) old.1;
          book = refl;
          next = ap (λ (x : ItemId). x.0 + 1) (sym here.id);
          longer = refl;
          id = ap (λ (x : ItemId). ltb most_items x.0) (sym here.id);
        };
        held = ap (part (λ i. i.held) []) (sym old.1);
        puts = refl;
      },
    )
