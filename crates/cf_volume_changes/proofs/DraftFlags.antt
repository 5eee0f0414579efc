-- Whether changes find room, by what a draft tells.
use Rattle.std.proofs.Common.{◌≡◌, ℕ, zero, suc, ◌+◌, ◌<◌, ◌≤◌, Bool, true, false, ◌&&◌, ◌||◌, not, cond, eqb, ltb, List, [], ◌∷◌, length, drop, drop-cons, get_or, refl, sym, ◌∙◌, ap, arith, Some}
use Rattle.std.proofs.lemmas.Bool.{cond-false, cond-true, eq-eqb, eqb-true, le-ltb, lt-ltb, ltb-false, ltb-true, ne_eqb}
use Rattle.std.proofs.lemmas.Option.{none-some}
use Rattle.cf_base.specs.declared.changes.Change.{Change}
use Rattle.cf_base.specs.declared.ids.ItemId.{ItemId}
use Rattle.cf_base.specs.declared.ids.Usn.{Usn}
use Rattle.cf_volume_image.specs.declared.contents.Contents.{Contents}
use Rattle.cf_model.specs.Blocks.{blocks_used, is_full, passes_clusters, puts_into}
use Rattle.cf_model.specs.Books.{Book}
use Rattle.cf_model.specs.Changes.{next_number, no_blocks, no_table, put_change}
use Rattle.cf_model.specs.Images.{image_len, is_table_full, most_image, never_longer, table_full}
use Rattle.cf_model.specs.Items.{Item, item_of}
use Rattle.cf_model.specs.Numbers.{usn_after}
use Rattle.cf_model.specs.State.{Volume}
use Rattle.cf_volume_points.proofs.RowRoom.{AreEven, fits_of, full_of_long, full_of_many}
use Rattle.cf_volume_changes.proofs.DraftRows.{drawn_item}
use Rattle.cf_volume_changes.specs.Drafts.{AreInOrder, Drafts, row_in, shifted}
use Rattle.cf_volume_changes.specs.Tallies.{Counts}
use Rattle.cf_volume_changes.specs.declared.room.drafts.Draft.{Draft}
use Rattle.cf_volume_changes.specs.declared.room.tallies.Tally.{Tally}

-- items have a flag for each position

found_low : (low : ℕ) (items : List Item) (id : ItemId) (j : Item) → AreInOrder low items → item_of items id ≡ Some j → low ≤ id.0
found_low low [] id j r e = absurd (none-some j e)
found_low low (i ∷ is) id j r e = by (eqb i.id.0 id.0) refl e (found_low (i.id.0 + 1) is id j r.1)
  where
    by : (t : Bool) → eqb i.id.0 id.0 ≡ t → cond t (Some i) (item_of is id) ≡ Some j → (item_of is id ≡ Some j → i.id.0 + 1 ≤ id.0) → low ≤ id.0
    by true q s rest = omega (arith, eqb-true i.id.0 id.0 q, r.0)
    by false q s rest = omega (arith, rest s, r.0)

even_all : (low : ℕ) (items : List Item) → AreInOrder low items → ((id : ItemId) (i : Item) → item_of items id ≡ Some i → length i.valid ≡ length i.held) → AreEven items
even_all low [] r even = tt
even_all low (i ∷ is) r even = (even i.id i (cond-true (eqb i.id.0 i.id.0) (Some i) (item_of is i.id) (eq-eqb i.id.0 i.id.0 refl)), even_all (i.id.0 + 1) is r.1 rest)
  where
    rest : (id : ItemId) (j : Item) → item_of is id ≡ Some j → length j.valid ≡ length j.held
    rest id j e =
        let past = found_low (i.id.0 + 1) is id j r.1 e in
        even id j (cond-false (eqb i.id.0 id.0) (Some i) (item_of is id) (ne_eqb i.id.0 id.0 (λ s. omega (arith, s, past))) ∙ e)

pub drafts_even : (c : Contents) (d : Draft) (w : Volume) → Drafts c d w → AreEven w.items
drafts_even c d w drafts = even_all 0 w.items drafts.rise
    (λ id i e. (drawn_item w.epoch (next_number w) w.book (row_in d c.rows.rows id) (item_of w.items id) i (drafts.rows id) e).2.means.bytes.even)

-- the table

pub table_exact : (items : List Item) (b : Book) → AreEven items → table_full items b ≡ (ltb 10000 (length items) || ltb most_image (image_len items b))
table_exact items b even = by (ltb 10000 (length items)) (ltb most_image (image_len items b)) refl refl
  where
    by : (x y : Bool) → ltb 10000 (length items) ≡ x → ltb most_image (image_len items b) ≡ y → table_full items b ≡ (x || y)
    by true y e f = full_of_many items b (ltb-true 10000 (length items) e)
    by false true e f = full_of_long items b even (ltb-true most_image (image_len items b) f)
    by false false e f = fits_of items b (record { few = ltb-false 10000 (length items) e; short = ltb-false most_image (image_len items b) f })

pub less_same : (a l n m : ℕ) → m ≡ n + l → ltb (a + l) m ≡ ltb a n
less_same a l n m e = by (ltb a n) refl
  where
    by : (t : Bool) → ltb a n ≡ t → ltb (a + l) m ≡ ltb a n
    by true h = lt-ltb (a + l) m (let lt = ltb-true a n h in omega (arith, lt, e)) ∙ sym h
    by false h = le-ltb (a + l) m (let le = ltb-false a n h in omega (arith, le, e)) ∙ sym h

table_refuses : (ch : Change) (items : List Item) (b : Book) (full : Bool) → table_full items b ≡ full → is_table_full ch items b ≡ (not (never_longer ch) && full)
table_refuses ch items b full e = ap (cond (never_longer ch) false) e ∙ by (never_longer ch)
  where
    by : (t : Bool) → cond t false full ≡ (not t && full)
    by true = refl
    by false = refl

-- clusters
passes_asked : (clusters : ℕ) (items : List Item) (less more n : ℕ) → more ≡ blocks_used items + less → cond (eqb n 0) false (ltb (clusters + less) (more + n)) ≡ passes_clusters clusters items n
passes_asked clusters items less more zero e = refl
passes_asked clusters items less more (suc n) e = cond-false (eqb (suc n) 0) false (ltb (clusters + less) (more + suc n)) (ne_eqb (suc n) 0 (λ s. omega (arith, s)))
    ∙ less_same clusters less (blocks_used items + suc n) (more + suc n) (omega (arith, e))

-- one more change

flags : (a x y : Bool) → (not a || (x || y)) ≡ (not (a && not x) || y)
flags true true y = refl
flags true false y = refl
flags false x y = refl

module _ (c : Contents) (clusters : ℕ) (t : Tally) (ch : Change) (rest all : List Change) (v : Volume) (counts : Counts c clusters t (ch ∷ rest) all v) where
  pub number_is : (n : Usn) → n ≡ shifted c.last.epoch (usn_after c.last.epoch (c.last.place + t.steps)) → n ≡ shifted counts.made.epoch (next_number counts.made)
  number_is n e = e ∙ (λ j. shifted (sym counts.epoch j) (usn_after (sym counts.epoch j) (sym counts.place j)))

  module _ (d : Draft) (asked steps : ℕ) (long full table blocks : Bool) (asked_is : asked ≡ length (puts_into counts.made.items ch)) (drafts : Drafts c d (put_change ch counts.made)) (steps_is : steps ≡ t.steps + 1)
      (long_is : long ≡ (ltb (10000 + d.less.items) d.more.items || ltb (1306624 + d.less.bytes) d.more.bytes)) (full_is : full ≡ cond (eqb asked 0) false (ltb (clusters + t.draft.less.blocks) (t.draft.more.blocks + asked)))
      (table_is : table ≡ (t.table && not (not (never_longer ch) && long))) (blocks_is : blocks ≡ (t.blocks && not full)) where
    refuses : is_table_full ch (put_change ch counts.made).items (put_change ch counts.made).book ≡ (not (never_longer ch) && long)
    refuses = table_refuses ch (put_change ch counts.made).items (put_change ch counts.made).book long
        (table_exact (put_change ch counts.made).items (put_change ch counts.made).book (drafts_even c d (put_change ch counts.made) drafts)
        ∙ sym (long_is ∙ (λ j. less_same 10000 d.less.items (length (put_change ch counts.made).items) d.more.items drafts.items j
        || less_same 1306624 d.less.bytes (image_len (put_change ch counts.made).items (put_change ch counts.made).book) d.more.bytes drafts.bytes j)))

    passes : is_full counts.made.clusters counts.made.items ch ≡ full
    passes = sym (full_is ∙ passes_asked clusters counts.made.items t.draft.less.blocks t.draft.more.blocks asked counts.drafts.blocks ∙ (λ j. passes_clusters (sym counts.clusters_are j) counts.made.items (asked_is j)))

    pub counts_on : Counts c clusters (record { draft = d; steps = steps; table = table; blocks = blocks }) rest all v
    counts_on = record {
      made = put_change ch counts.made;
      ends = counts.ends;
      drafts = drafts;
      fits = counts.fits.2;
      epoch = counts.epoch;
      place = omega (arith, counts.place, steps_is);
      clusters_are = counts.clusters_are;
      table = counts.table ∙ ap (λ (x : Bool). not t.table || (x || no_table (put_change ch counts.made) rest)) refuses ∙ flags t.table (not (never_longer ch) && long) (no_table (put_change ch counts.made) rest)
          ∙ ap (λ (x : Bool). not x || no_table (put_change ch counts.made) rest) (sym table_is);
      full = counts.full ∙ ap (λ (x : Bool). not t.blocks || (x || no_blocks (put_change ch counts.made) rest)) passes ∙ flags t.blocks full (no_blocks (put_change ch counts.made) rest)
          ∙ ap (λ (x : Bool). not x || no_blocks (put_change ch counts.made) rest) (sym blocks_is);
    }

-- the flags at the end

pub none_of : (a b : Bool) → (not a && not b) ≡ not (a || b)
none_of true b = refl
none_of false b = refl

pub flag_is : (t a : Bool) → a ≡ (not t || false) → t ≡ not a
flag_is true a e = ap not (sym e)
flag_is false a e = ap not (sym e)

pub next_of_list : {A : Type 0} (xs : List A) (i : ℕ) (x : A) → i < length xs → x ≡ get_or xs i x → drop i xs ≡ x ∷ drop (i + 1) xs
next_of_list {A} xs i x lt is =
    let e : suc i ≡ i + 1 = omega arith in
    drop-cons xs i x lt ∙ (λ j. sym is j ∷ drop (e j) xs)
