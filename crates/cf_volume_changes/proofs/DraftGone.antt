-- A removal, drafted.
use Rattle.std.proofs.Common.{◌≡◌, ℕ, ◌+◌, ◌^◌, ◌<◌, ◌==◌, Bool, true, false, ◌||◌, not, cond, eqb, List, [], ◌∷◌, ◌++◌, length, refl, sym, ◌∙◌, ap, subst, arith, Option, Some, None}
use Rattle.std.specs.Prelude.{All, find, sum_by}
use Rattle.std.proofs.lemmas.Bool.{eqb-true, eq-eqb, true≢false}
use Rattle.std.proofs.lemmas.List.Elements.{All-append, All-cons, All-head, All-nil, All-tail}
use Rattle.cf_base.specs.declared.answers.Access.{Access}
use Rattle.cf_base.specs.declared.answers.Anchor.{Anchor}
use Rattle.cf_base.specs.declared.answers.AuxRecord.{AuxRecord}
use Rattle.cf_base.specs.declared.changes.Change.{Change}
use Rattle.cf_base.specs.declared.changes.Change.TheVariants as change
use Rattle.cf_base.specs.declared.ids.ItemId.{ItemId}
use Rattle.cf_base.specs.declared.ids.Usn.{Usn}
use Rattle.cf_volume_points.proofs.Lookups.{at_without}
use Rattle.cf_volume_points.proofs.Lookups.{filter_records}
use Rattle.cf_volume_image.specs.Contents.{record_at}
use Rattle.cf_volume_image.specs.Spelled.{AreRecordsFrom}
use Rattle.cf_volume_image.specs.declared.contents.Contents.{Contents}
use Rattle.cf_model.specs.Blocks.{blocks_held, blocks_used}
use Rattle.cf_model.specs.Books.{Book, access_of, anchor_of, aux_records, book_after}
use Rattle.cf_model.specs.Changes.{next_number, put_change}
use Rattle.cf_model.specs.Effects.{without}
use Rattle.cf_model.specs.Formats.{without_record}
use Rattle.cf_model.specs.Images.{aux_len, row_len}
use Rattle.cf_model.specs.Items.{Item, item_of}
use Rattle.cf_model.specs.Numbers.{no_usn, usn_after}
use Rattle.cf_model.specs.State.{Volume}
use Rattle.cf_model.specs.Words.{part, same}
use Rattle.cf_volume_points.proofs.Found.{found_left}
use Rattle.cf_volume_points.specs.Keeping.{AreShortIds}
use Rattle.cf_volume_points.specs.Standing.{IsBookOf}
use Rattle.cf_table.specs.Changing.{item_of_change}
use Rattle.cf_table.specs.Tables.{without_row}
use Rattle.cf_table.specs.declared.rows.Row.{Row}
use Rattle.cf_volume_changes.proofs.DraftItems.{item_id, item_without, length_sum, order_without, sum_none, sum_out}
use Rattle.cf_volume_changes.proofs.DraftRows.{all_on, drawn_below, drawn_blocks, drawn_len, row_taken}
use Rattle.cf_volume_changes.proofs.GoneFits.{row_left}
use Rattle.cf_volume_changes.proofs.RecordRoom.{without_len}
use Rattle.cf_volume_changes.proofs.SeenGone.{key_same, seen_gone}
use Rattle.cf_volume_changes.specs.AuxPuts.{len_if}
use Rattle.cf_volume_changes.specs.Drafting.{AreSizesOf, record_sizes}
use Rattle.cf_volume_changes.specs.Drafts.{AreInOrder, Drafts, Draws, added, is_gone, records_in, row_in}
use Rattle.cf_volume_changes.specs.Keys.{IsRemove, seen_key}
use Rattle.cf_volume_changes.specs.declared.room.drafts.Draft.{Draft}
use Rattle.cf_volume_changes.specs.declared.room.drafts.Sizes.{Sizes}

-- records

records_last : (ids : List ItemId) (id : ItemId) (rs : List AuxRecord) → records_in (ids ++ id ∷ []) rs ≡ without_record (seen_key id) (records_in ids rs)
records_last [] id rs = refl
records_last (g ∷ gs) id rs = records_last gs id (without_record (seen_key g) rs)

pub records_rise : (ids : List ItemId) (rs : List AuxRecord) → AreRecordsFrom None rs → AreRecordsFrom None (records_in ids rs)
records_rise [] rs h = h
records_rise (g ∷ gs) rs h = records_rise gs (without_record (seen_key g) rs) (filter_records (λ (r : AuxRecord). not (same r.key (seen_key g))) None rs h)

record_left : (ids : List ItemId) (id : ItemId) (rs : List AuxRecord) → All (λ g. g.0 < 2 ^ 64) ids → id.0 < 2 ^ 64 → record_at (records_in ids rs) (seen_key id) ≡ cond (is_gone ids id) None (record_at rs (seen_key id))
record_left [] id rs all low = refl
record_left (g ∷ gs) id rs all low =
    record_left gs id (without_record (seen_key g) rs) (All-tail (λ (x : ItemId). x.0 < 2 ^ 64) g gs all) low
    ∙ ap (λ (o : Option AuxRecord). cond (is_gone gs id) None o) (at_without (seen_key g) (seen_key id) (eqb g.0 id.0) rs (key_same g id (All-head (λ (x : ItemId). x.0 < 2 ^ 64) g gs all) low))
    ∙ by (is_gone gs id) (eqb g.0 id.0)
  where
    by : (x y : Bool) → cond x None (cond y None (record_at rs (seen_key id))) ≡ cond (y || x) None (record_at rs (seen_key id))
    by true true = refl
    by true false = refl
    by false true = refl
    by false false = refl

-- the book

turned : (a b : ℕ) → eqb a b ≡ eqb b a
turned a b = by (eqb a b) refl (eqb b a) refl
  where
    by : (t : Bool) → eqb a b ≡ t → (u : Bool) → eqb b a ≡ u → t ≡ u
    by true e true f = refl
    by true e false f = absurd (true≢false (sym (eq-eqb b a (sym (eqb-true a b e))) ∙ f))
    by false e true f = absurd (true≢false (sym (eq-eqb a b (sym (eqb-true b a f))) ∙ e))
    by false e false f = refl

gone_anchor : (id key : ItemId) (b : Book) → anchor_of (book_after (change.Remove id) b) key ≡ cond (eqb id.0 key.0) no_usn (anchor_of b key)
gone_anchor id key b =
    ap (part (λ (a : Anchor). a.number) no_usn) (found_left (λ (a : Anchor). a.item.0 == key.0) (λ (a : Anchor). a.item.0 == id.0) (eqb id.0 key.0) b.anchors (λ x h. ap (λ (n : ℕ). eqb n id.0) (eqb-true x.item.0 key.0 h) ∙ turned key.0 id.0))
    ∙ by (eqb id.0 key.0)
  where
    by : (t : Bool) → part (λ (a : Anchor). a.number) no_usn (cond t None (find (λ (a : Anchor). a.item.0 == key.0) b.anchors)) ≡ cond t no_usn (anchor_of b key)
    by true = refl
    by false = refl

gone_access : (id key : ItemId) (b : Book) → access_of (book_after (change.Remove id) b) key ≡ cond (eqb id.0 key.0) 0 (access_of b key)
gone_access id key b =
    ap (part (λ (a : Access). a.clock) 0) (found_left (λ (a : Access). a.item.0 == key.0) (λ (a : Access). a.item.0 == id.0) (eqb id.0 key.0) b.accesses (λ x h. ap (λ (n : ℕ). eqb n id.0) (eqb-true x.item.0 key.0 h) ∙ turned key.0 id.0))
    ∙ by (eqb id.0 key.0)
  where
    by : (t : Bool) → part (λ (a : Access). a.clock) 0 (cond t None (find (λ (a : Access). a.item.0 == key.0) b.accesses)) ≡ cond t 0 (access_of b key)
    by true = refl
    by false = refl

book_left : (id : ItemId) (items : List Item) (b : Book) → IsBookOf items b → IsBookOf (without id items) (book_after (change.Remove id) b)
book_left id items b h key none = by (eqb id.0 key.0) refl (sym (item_without id key items) ∙ none)
  where
    by : (t : Bool) → eqb id.0 key.0 ≡ t → cond t None (item_of items key) ≡ None → (anchor_of (book_after (change.Remove id) b) key ≡ no_usn) × (access_of (book_after (change.Remove id) b) key ≡ 0)
    by true e n = (gone_anchor id key b ∙ ap (λ (x : Bool). cond x no_usn (anchor_of b key)) e, gone_access id key b ∙ ap (λ (x : Bool). cond x 0 (access_of b key)) e)
    by false e n = (gone_anchor id key b ∙ ap (λ (x : Bool). cond x no_usn (anchor_of b key)) e ∙ (h key n).0, gone_access id key b ∙ ap (λ (x : Bool). cond x 0 (access_of b key)) e ∙ (h key n).1)

-- the rows of other items

other_rows : (e : ℕ) (n : Usn) (id key : ItemId) (b : Book) (o : Option Row) (items : List Item) → eqb id.0 key.0 ≡ false → Draws e n b o (item_of items key) → Draws e n (book_after (change.Remove id) b) o (item_of items key)
other_rows e n id key b o items apart h = by o (item_of items key) refl h
  where
    by : (o : Option Row) (q : Option Item) → item_of items key ≡ q → Draws e n b o q → Draws e n (book_after (change.Remove id) b) o q
    by None None at h = tt
    by None (Some i) at h = absurd h
    by (Some r) None at h = absurd h
    by (Some r) (Some i) at h =
        let is : i.id.0 ≡ key.0 = item_id items key i at in
        record {
          means = h.means;
          anchor = h.anchor ∙ sym (gone_anchor id i.id b ∙ ap (λ (x : Bool). cond x no_usn (anchor_of b i.id)) (ap (eqb id.0) is ∙ apart));
          later = h.later;
          low = h.low;
          numbered = h.numbered;
        }

-- sums

pub record LessBy (id : ItemId) (items : List Item) (b : Book) (z : Sizes) : Type 0 where
  pub bytes : sum_by (row_len (book_after (change.Remove id) b)) (without id items) + z.bytes ≡ sum_by (row_len b) items
  pub count : length (without id items) + z.items ≡ length items
  pub used : blocks_used (without id items) + z.blocks ≡ blocks_used items

less_by : (e : ℕ) (n : Usn) (id : ItemId) (items : List Item) (b : Book) (o : Option Row) (z : Sizes) → AreInOrder 0 items → Draws e n b o (item_of items id) → AreSizesOf o z → LessBy id items b z
less_by e n id items b o z order draws sizes = by o (item_of items id) refl draws sizes
  where
    others : (j : Item) → (j.id.0 ≡ id.0 → ⊥) → row_len (book_after (change.Remove id) b) j ≡ row_len b j
    others j apart = row_left id b j apart

    by : (o : Option Row) (q : Option Item) → item_of items id ≡ q → Draws e n b o q → AreSizesOf o z → LessBy id items b z
    by None None at h s = record {
      bytes = omega (arith, sum_none (row_len b) (row_len (book_after (change.Remove id) b)) id items at others, ap (λ (x : Sizes). x.bytes) s);
      count = omega (arith, sum_none (λ i. 1) (λ i. 1) id items at (λ j apart. refl), length_sum items, length_sum (without id items), ap (λ (x : Sizes). x.items) s);
      used = omega (arith, sum_none (λ i. blocks_held i.held) (λ i. blocks_held i.held) id items at (λ j apart. refl), ap (λ (x : Sizes). x.blocks) s);
    }
    by None (Some i) at h s = absurd h
    by (Some r) None at h s = absurd h
    by (Some r) (Some i) at h s =
        let is = s.1 _ (drawn_below e n b r i h s.0) in
        record {
          bytes = omega (arith, sum_out (row_len b) (row_len (book_after (change.Remove id) b)) id 0 items i order at others, ap (λ (x : Sizes). x.bytes) is, drawn_len e n b r i h s.0);
          count = omega (arith, sum_out (λ i. 1) (λ i. 1) id 0 items i order at (λ j apart. refl), length_sum items, length_sum (without id items), ap (λ (x : Sizes). x.items) is);
          used = omega (arith, sum_out (λ i. blocks_held i.held) (λ i. blocks_held i.held) id 0 items i order at (λ j apart. refl), ap (λ (x : Sizes). x.blocks) is, drawn_blocks e n b r i h s.0);
        }

-- the draft

pub is_remove : (ch : Change) (id : ItemId) → IsRemove ch → id ≡ item_of_change ch → ch ≡ change.Remove id
is_remove (change.Make item parent name kind size identity) id is here = absurd is
is_remove (change.Remove item) id is here = ap change.Remove (sym here)
is_remove (change.Move item parent name) id is here = absurd is
is_remove (change.Write item at bytes) id is here = absurd is
is_remove (change.Size item size) id is here = absurd is
is_remove (change.Filled item start bytes) id is here = absurd is
is_remove (change.Validated item start len) id is here = absurd is
is_remove (change.Emptied item start len) id is here = absurd is
is_remove (change.SetPin item state) id is here = absurd is
is_remove (change.Mark item number) id is here = absurd is
is_remove (change.Clear item) id is here = absurd is
is_remove (change.Convert item identity) id is here = absurd is
is_remove (change.Revert item) id is here = absurd is
is_remove (change.Rebase item identity len at) id is here = absurd is
is_remove (change.Take item identity size) id is here = absurd is
is_remove (change.Copy item from parent name) id is here = absurd is
is_remove (change.Populated item) id is here = absurd is
is_remove (change.Keep item on) id is here = absurd is

module _ (c : Contents) (d e : Draft) (w : Volume) (id : ItemId) (z : Sizes) (drafts : Drafts c d w) (low : id.0 < 2 ^ 64) (short : AreShortIds w.book.seen) (rise : AreRecordsFrom None c.records)
    (changed_is : e.changed.rows ≡ without_row id d.changed.rows) (gone_is : e.gone.items ≡ d.gone.items ++ id ∷ []) (more : e.more ≡ d.more) (less : e.less ≡ added (added d.less (record_sizes d.gone.items c.records id)) z)
    (sizes : AreSizesOf (row_in d c.rows.rows id) z) where
  abbrev book : Book
  book = book_after (change.Remove id) w.book

  records_are : aux_records book ≡ without_record (seen_key id) (aux_records w.book)
  records_are = seen_gone id w.book low short

  aux_sum : sum_by aux_len (aux_records book) + cond (is_gone d.gone.items id) 0 (len_if (record_at c.records (seen_key id))) ≡ sum_by aux_len (aux_records w.book)
  aux_sum =
      let sums = without_len (seen_key id) None (aux_records w.book) (subst (AreRecordsFrom None) (sym drafts.records) (records_rise d.gone.items c.records rise)) in
      let there = ap len_if (ap (λ (l : List AuxRecord). record_at l (seen_key id)) drafts.records ∙ record_left d.gone.items id c.records drafts.gone low) ∙ by (is_gone d.gone.items id) in
      omega (arith, sums, there, ap (sum_by aux_len) records_are)
    where
      by : (t : Bool) → len_if (cond t None (record_at c.records (seen_key id))) ≡ cond t 0 (len_if (record_at c.records (seen_key id)))
      by true = refl
      by false = refl

  sums : LessBy id w.items w.book z
  sums = less_by w.epoch (next_number w) id w.items w.book (row_in d c.rows.rows id) z drafts.rise (drafts.rows id) sizes

  rows_after : (key : ItemId) → Draws w.epoch (usn_after w.epoch (w.place + 1)) book (row_in e c.rows.rows key) (item_of (without id w.items) key)
  rows_after key =
      subst (λ (o : Option Row). Draws w.epoch (usn_after w.epoch (w.place + 1)) book o (item_of (without id w.items) key)) (sym (row_taken d e c.rows.rows id key changed_is gone_is))
      (subst (λ (q : Option Item). Draws w.epoch (usn_after w.epoch (w.place + 1)) book (cond (eqb id.0 key.0) None (row_in d c.rows.rows key)) q) (sym (item_without id key w.items)) (by (eqb id.0 key.0) refl))
    where
      by : (t : Bool) → eqb id.0 key.0 ≡ t → Draws w.epoch (usn_after w.epoch (w.place + 1)) book (cond t None (row_in d c.rows.rows key)) (cond t None (item_of w.items key))
      by true q = tt
      by false q = other_rows w.epoch (usn_after w.epoch (w.place + 1)) id key w.book (row_in d c.rows.rows key) w.items q (all_on w.epoch w.place w.book (row_in d c.rows.rows key) (item_of w.items key) (drafts.rows key))

  pub gone_drafts : Drafts c e (put_change (change.Remove id) w)
  gone_drafts = record {
    rise = order_without 0 id w.items drafts.rise;
    gone = subst (λ (l : List ItemId). All (λ g. g.0 < 2 ^ 64) l) (sym gone_is) (All-append (λ (g : ItemId). g.0 < 2 ^ 64) d.gone.items (id ∷ []) drafts.gone (All-cons (λ (g : ItemId). g.0 < 2 ^ 64) id [] low (All-nil (λ (g : ItemId). g.0 < 2 ^ 64))));
    rows = rows_after;
    book = book_left id w.items w.book drafts.book;
    records = records_are ∙ ap (without_record (seen_key id)) drafts.records ∙ sym (records_last d.gone.items id c.records) ∙ ap (λ (l : List ItemId). records_in l c.records) (sym gone_is);
    bytes = omega (arith, sums.bytes, aux_sum, drafts.bytes, ap (λ (x : Sizes). x.bytes) more, ap (λ (x : Sizes). x.bytes) less);
    items = omega (arith, sums.count, drafts.items, ap (λ (x : Sizes). x.items) more, ap (λ (x : Sizes). x.items) less);
    blocks = omega (arith, sums.used, drafts.blocks, ap (λ (x : Sizes). x.blocks) more, ap (λ (x : Sizes). x.blocks) less);
  }
