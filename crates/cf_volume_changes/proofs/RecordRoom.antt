-- How long the records are after one is put or taken out.
use Rattle.std.proofs.Common.{◌≡◌, ℕ, ◌+◌, ◌≤◌, Bool, true, false, not, cond, ltb, List, [], ◌∷◌, length, min, refl, sym, ◌∙◌, ap, subst, arith, Option, Some, None}
use Rattle.std.specs.Prelude.{find, sum_by, ◌==◌}
use Rattle.std.proofs.lemmas.Bool.{cond-false, ltb-false, ltb-true, true≢false}
use Rattle.std.proofs.lemmas.List.Sums.{sum_by-cons}
use Rattle.cf_base.specs.declared.answers.Access.{Access}
use Rattle.cf_base.specs.declared.answers.Anchor.{Anchor}
use Rattle.cf_base.specs.declared.answers.AuxRecord.{AuxRecord}
use Rattle.cf_base.specs.declared.ids.ItemId.{ItemId}
use Rattle.cf_base.specs.declared.ids.Usn.{Usn}
use Rattle.cf_volume_points.proofs.Lookups.{at_with, at_without}
use Rattle.cf_disk.specs.Disk.{State}
use Rattle.cf_volume_image.proofs.Keys.{after_not_same}
use Rattle.cf_volume_image.proofs.RecordPlaces.{none_after}
use Rattle.cf_volume_image.specs.Contents.{record_at}
use Rattle.cf_volume_image.specs.Spelled.{AreRecordsFrom}
use Rattle.cf_model.specs.Books.{Book, access_of, anchor_of}
use Rattle.cf_model.specs.Effects.{later_than}
use Rattle.cf_model.specs.Formats.{with_record, with_records, without_record}
use Rattle.cf_model.specs.Images.{aux_len, count_runs, image_len, most_image, row_len, table_full}
use Rattle.cf_model.specs.Items.{Item, covered_flags}
use Rattle.cf_model.specs.Numbers.{no_usn}
use Rattle.cf_model.specs.State.{Volume}
use Rattle.cf_model.specs.Words.{comes_before, part, put_in, same}
use Rattle.cf_volume_points.proofs.BookChanges.{rebooked_at}
use Rattle.cf_volume_points.proofs.RowRoom.{AreEven, even_items, fits_of, full_of_long, full_of_many, held_len}
use Rattle.cf_volume_points.specs.At.{At}
use Rattle.cf_volume_points.specs.Holding.{FitsTable}
use Rattle.cf_volume_points.specs.Known.{Known}
use Rattle.cf_volume_points.specs.Sound.{len_now}
use Rattle.cf_volume_points.specs.Standing.{cluster_on}
use Rattle.cf_table.proofs.NamedEntries.{same_is}
use Rattle.cf_table.specs.Tables.{AreTableRows}
use Rattle.cf_volume_changes.proofs.GoneFits.{key_known, lighter_left}
use Rattle.cf_volume_changes.specs.AuxPuts.{len_if}
use Rattle.cf_volume_changes.specs.Calls.{HasRecords}
use Rattle.cf_volume_changes.specs.Notes.{KnowKeys, NotesKey}

none_same : (key : List ℕ) (xs : List AuxRecord) → AreRecordsFrom (Some key) xs → record_at xs key ≡ None
none_same key [] h = refl
none_same key (x ∷ xs) h = cond-false (same x.key key) (Some x) (record_at xs key) (after_not_same key x.key h.0.0.1) ∙ none_after key x.key xs h.0.0.1 h.1

pub without_len : (key : List ℕ) (before : Option (List ℕ)) (xs : List AuxRecord) → AreRecordsFrom before xs → sum_by aux_len (without_record key xs) + len_if (record_at xs key) ≡ sum_by aux_len xs
without_len key before [] h = refl
without_len key before (x ∷ xs) h = by (same x.key key) refl (without_len key (Some x.key) xs h.1)
  where
    by : (t : Bool) → same x.key key ≡ t → sum_by aux_len (without_record key xs) + len_if (record_at xs key) ≡ sum_by aux_len xs
        → sum_by aux_len (cond (not t) (x ∷ without_record key xs) (without_record key xs)) + len_if (cond t (Some x) (record_at xs key)) ≡ sum_by aux_len (x ∷ xs)
    by true e f =
        let none = ap len_if (ap (record_at xs) (sym (is_key e)) ∙ none_same x.key xs h.1) in
        omega (arith, f, none, sum_by-cons aux_len x xs)
      where
        is_key : same x.key key ≡ true → x.key ≡ key
        is_key e = same_is x.key key e
    by false e f = omega (arith, f, sum_by-cons aux_len x xs, sum_by-cons aux_len x (without_record key xs))

put_len : (before : AuxRecord → AuxRecord → Bool) (r : AuxRecord) (xs : List AuxRecord) → sum_by aux_len (put_in before r xs) ≡ sum_by aux_len xs + aux_len r
put_len before r [] = omega (arith, sum_by-cons aux_len r [])
put_len before r (x ∷ xs) = by (before x r) (put_len before r xs)
  where
    by : (t : Bool) → sum_by aux_len (put_in before r xs) ≡ sum_by aux_len xs + aux_len r → sum_by aux_len (cond t (x ∷ put_in before r xs) (r ∷ x ∷ xs)) ≡ sum_by aux_len (x ∷ xs) + aux_len r
    by true f = omega (arith, f, sum_by-cons aux_len x xs, sum_by-cons aux_len x (put_in before r xs))
    by false f = omega (arith, sum_by-cons aux_len x xs, sum_by-cons aux_len r (x ∷ xs))

pub with_len : (r : AuxRecord) (xs : List AuxRecord) → AreRecordsFrom None xs → sum_by aux_len (with_record r xs) + len_if (record_at xs r.key) ≡ sum_by aux_len xs + aux_len r
with_len r xs h = omega (arith, put_len (λ x y. comes_before x.key y.key) r (without_record r.key xs), without_len r.key None xs h)

-- the rows are as long under a book with the same anchors

row_same : (b c : Book) (i : Item) → anchor_of c i.id ≡ anchor_of b i.id → row_len c i ≡ row_len b i
row_same b c i e =
    let since = ap (λ (m : Usn). count_runs false (covered_flags (later_than m i.writes) i)) e in
    omega (arith, since)

pub rows_same : (b c : Book) (items : List Item) → ((id : ItemId) → anchor_of c id ≡ anchor_of b id) → sum_by (row_len c) items ≡ sum_by (row_len b) items
rows_same b c [] e = refl
rows_same b c (i ∷ is) e = omega (arith, row_same b c i (e i.id), rows_same b c is e, sum_by-cons (row_len b) i is, sum_by-cons (row_len c) i is)

-- another book with other records

module _ (s : State) (k : Known) (v : Volume) (b : Book) (records : List AuxRecord) (at : At s k v) (has : HasRecords v.book records b) where
  anchors : (id : ItemId) → anchor_of b id ≡ anchor_of v.book id
  anchors id = ap (λ (l : List Anchor). part (λ (a : Anchor). a.number) no_usn (find (λ (a : Anchor). a.item.0 == id.0) l)) has.anchors

  accesses : (id : ItemId) → access_of b id ≡ access_of v.book id
  accesses id = ap (λ (l : List Access). part (λ (a : Access). a.clock) 0 (find (λ (a : Access). a.item.0 == id.0) l)) has.accesses

  lens : image_len v.items b + sum_by aux_len k.records ≡ image_len v.items v.book + sum_by aux_len records
  lens =
      let rows = rows_same v.book b v.items anchors in
      let new = ap (sum_by aux_len) has.told in
      let old = ap (sum_by aux_len) at.now.records in
      omega (arith, rows, new, old)

  -- they are no longer
  pub less_fits : sum_by aux_len records ≤ sum_by aux_len k.records → FitsTable v.items b
  less_fits less = record { few = at.now.fits.few; short = omega (arith, at.now.fits.short, lens, less) }

  module _ (table : AreTableRows k.table.rows) (size old new : ℕ) (full : Bool) (size_is : size ≡ len_now k) (sums : sum_by aux_len records + old ≡ sum_by aux_len k.records + new)
      (test : full ≡ ltb (most_image + old) (min size 18446744073709551615 + new)) where
    image_is : min size 18446744073709551615 ≡ image_len v.items v.book
    image_is =
        let rows = held_len (cluster_on s.seen) v.book k.table.rows v.items table at.now.rows in
        let is = ap (sum_by aux_len) at.now.records in
        let short = at.now.fits.short in
        omega (arith, size_is, rows, is, short)

    pub put_fits : full ≡ false → FitsTable v.items b
    put_fits e = record { few = at.now.fits.few; short = omega (arith, lens, sums, image_is, ltb-false (most_image + old) (min size 18446744073709551615 + new) (sym test ∙ e)) }

    pub put_full : full ≡ true → table_full v.items b ≡ true
    put_full e = full_of_long v.items b (even_items (cluster_on s.seen) v.book k.table.rows v.items at.now.rows) (omega (arith, lens, sums, image_is, ltb-true (most_image + old) (min size 18446744073709551615 + new) (sym test ∙ e)))

  module _ (key : List ℕ) (records_then' keys_made' : List AuxRecord) (notes : NotesKey key k.records k.records_then records_then' k.keys_made keys_made')
      (others : (other : List ℕ) → same key other ≡ false → record_at records other ≡ record_at k.records other) (fits : FitsTable v.items b) where
    pub aux_at : At s (record k { records = records; records_then = records_then'; keys_made = keys_made' }) (record v { book = b })
    aux_at = rebooked_at s k v b k.clock records records_then' keys_made' at anchors accesses (at.now.clock ∙ sym has.clock) (sym has.told) fits
        (key_known key k.records records k.records_then records_then' k.keys_made keys_made' notes others)

-- the other records stay

pub with_others : (r : AuxRecord) (xs : List AuxRecord) (other : List ℕ) → same r.key other ≡ false → record_at (with_record r xs) other ≡ record_at xs other
with_others r xs other miss = at_with r other false xs miss

pub without_others : (key : List ℕ) (xs : List AuxRecord) (other : List ℕ) → same key other ≡ false → record_at (without_record key xs) other ≡ record_at xs other
without_others key xs other miss = at_without key other false xs miss

pub without_less : (key : List ℕ) (xs : List AuxRecord) → sum_by aux_len (without_record key xs) ≤ sum_by aux_len xs
without_less key xs = lighter_left aux_len (λ r. not (same r.key key)) xs

-- a record taken out
module _ (s : State) (k : Known) (v : Volume) (b : Book) (key : List ℕ) (at : At s k v) (has : HasRecords v.book (without_record key k.records) b) where
  taken_fits : FitsTable v.items b
  taken_fits = less_fits s k v b (without_record key k.records) at has (without_less key k.records)

  pub taken_short : table_full v.items b ≡ false
  taken_short = fits_of v.items b taken_fits

  pub taken_at : (records records_then' keys_made' : List AuxRecord) → records ≡ without_record key k.records → NotesKey key k.records k.records_then records_then' k.keys_made keys_made'
      → At s (record k { records = records; records_then = records_then'; keys_made = keys_made' }) (record v { book = b })
  taken_at records records_then' keys_made' is notes = subst (λ (l : List AuxRecord). At s (record k { records = l; records_then = records_then'; keys_made = keys_made' }) (record v { book = b })) (sym is)
      (aux_at s k v b (without_record key k.records) at has key records_then' keys_made' notes (without_others key k.records) taken_fits)

-- a record put
module _ (s : State) (k : Known) (v : Volume) (b : Book) (r : AuxRecord) (at : At s k v) (has : HasRecords v.book (with_record r k.records) b) (table : AreTableRows k.table.rows) (rise : AreRecordsFrom None k.records) (size old : ℕ) (full : Bool)
    (size_is : size ≡ len_now k) (old_is : old ≡ len_if (record_at k.records r.key)) (test : full ≡ ltb (most_image + old) (min size 18446744073709551615 + aux_len r)) where
  sums : sum_by aux_len (with_record r k.records) + old ≡ sum_by aux_len k.records + aux_len r
  sums = let n = with_len r k.records rise in omega (arith, n, old_is)

  fits_then : full ≡ false → FitsTable v.items b
  fits_then e = put_fits s k v b (with_record r k.records) at has table size old (aux_len r) full size_is sums test e

  pub record_fits : full ≡ false → table_full v.items b ≡ false
  record_fits e = fits_of v.items b (fits_then e)

  pub record_full : full ≡ true → table_full v.items b ≡ true
  record_full e = put_full s k v b (with_record r k.records) at has table size old (aux_len r) full size_is sums test e

  pub record_put : full ≡ false → (records records_then' keys_made' : List AuxRecord) → records ≡ with_record r k.records → NotesKey r.key k.records k.records_then records_then' k.keys_made keys_made'
      → At s (record k { records = records; records_then = records_then'; keys_made = keys_made' }) (record v { book = b })
  record_put e records records_then' keys_made' is notes = subst (λ (l : List AuxRecord). At s (record k { records = l; records_then = records_then'; keys_made = keys_made' }) (record v { book = b })) (sym is)
      (aux_at s k v b (with_record r k.records) at has r.key records_then' keys_made' notes (with_others r k.records) (fits_then e))

-- records put one after the other

pub keys_kept : (records then' made : List AuxRecord) → KnowKeys records then' made records then' made
keys_kept records then' made = record { same_then = λ key. refl }

pub keys_on : (old then1 made1 mid then2 made2 new then3 made3 : List AuxRecord) (r : AuxRecord) → KnowKeys old then1 made1 mid then2 made2 → new ≡ with_record r mid → NotesKey r.key mid then2 then3 made2 made3 → KnowKeys old then1 made1 new then3 made3
keys_on old then1 made1 mid then2 made2 new then3 made3 r known is notes = record {
  same_then = λ key.
      key_known r.key mid new then2 then3 made2 made3 notes (λ other miss. ap (λ (l : List AuxRecord). record_at l other) is ∙ with_others r mid other miss) key
      ∙ known.same_then key;
}

fits_unless_full : (items : List Item) (b : Book) → AreEven items → table_full items b ≡ false → FitsTable items b
fits_unless_full items b even none = record { few = by_count (ltb 10000 (length items)) refl; short = by_len (ltb most_image (image_len items b)) refl }
  where
    by_count : (t : Bool) → ltb 10000 (length items) ≡ t → length items ≤ 10000
    by_count true e = absurd (true≢false (sym (full_of_many items b (ltb-true 10000 (length items) e)) ∙ none))
    by_count false e = ltb-false 10000 (length items) e

    by_len : (t : Bool) → ltb most_image (image_len items b) ≡ t → image_len items b ≤ most_image
    by_len true e = absurd (true≢false (sym (full_of_long items b even (ltb-true most_image (image_len items b) e)) ∙ none))
    by_len false e = ltb-false most_image (image_len items b) e

pub all_put : (s : State) (k : Known) (v : Volume) (b : Book) (list : List AuxRecord) (at : At s k v) (has : HasRecords v.book (with_records list k.records) b) → table_full v.items b ≡ false → (records records_then' keys_made' : List AuxRecord)
    → records ≡ with_records list k.records → KnowKeys k.records k.records_then k.keys_made records records_then' keys_made' → At s (record k { records = records; records_then = records_then'; keys_made = keys_made' }) (record v { book = b })
all_put s k v b list at has fits records records_then' keys_made' is known =
    rebooked_at s k v b k.clock records records_then' keys_made' at (anchors s k v b (with_records list k.records) at has) (accesses s k v b (with_records list k.records) at has) (at.now.clock ∙ sym has.clock) (is ∙ sym has.told)
    (fits_unless_full v.items b (even_items (cluster_on s.seen) v.book k.table.rows v.items at.now.rows) fits) known.same_then
