-- Another book beside the same items.
use Rattle.std.proofs.Common.{◌≡◌, inl, inr, ℕ, ◌+◌, ◌<◌, ◌≤◌, ◌==◌, Bool, true, false, cond, eqb, ltb, List, [], ◌∷◌, map, min, refl, sym, ◌∙◌, ap, subst, arith, Option, Some, None}
use Rattle.std.specs.Prelude.{find, option_map, sum_by}
use Rattle.std.proofs.lemmas.Bool.{cases_eq, cond-true, cond-false, eq-eqb, eqb-true, ne_eqb, true≢false}
use Rattle.std.proofs.lemmas.List.Sums.{sum_by-cons}
use Rattle.std.proofs.lemmas.Option.{none-some}
use Rattle.cf_base.specs.declared.answers.AuxRecord.{AuxRecord}
use Rattle.cf_base.specs.declared.ids.ItemId.{ItemId}
use Rattle.cf_base.specs.declared.ids.Usn.{Usn}
use Rattle.cf_disk.specs.Disk.{State}
use Rattle.cf_model.specs.Books.{Book, access_of, anchor_of, aux_records, with_access, with_anchor, with_ticks, without_access, without_anchor}
use Rattle.cf_model.specs.Effects.{changed, later_than}
use Rattle.cf_model.specs.Images.{count_runs, row_len, writes_since}
use Rattle.cf_model.specs.Items.{Item, covered_flags, item_of}
use Rattle.cf_model.specs.Numbers.{no_usn}
use Rattle.cf_model.specs.Standing.{HoldAll}
use Rattle.cf_model.specs.State.{Volume}
use Rattle.cf_model.specs.Words.{part, put_in, same}
use Rattle.cf_volume_points.proofs.Found.{found_left, found_put}
use Rattle.cf_volume_points.proofs.ItemChanges.{row_holds}
use Rattle.cf_volume_points.proofs.RowChanges.{named_by, times_split, times_with, with_holds}
use Rattle.cf_volume_points.proofs.RowRoom.{none_covered}
use Rattle.cf_volume_points.specs.At.{At}
use Rattle.cf_volume_points.specs.Clusters.{Owns, clusters_in_row, clusters_in_rows, times}
use Rattle.cf_volume_points.specs.Holding.{FitsTable, HoldRows, HoldsRow}
use Rattle.cf_volume_points.specs.Known.{Known, record_then, row_then}
use Rattle.cf_volume_points.specs.Standing.{cluster_on}
use Rattle.cf_table.proofs.Above.{none_above}
use Rattle.cf_table.specs.Means.{AreUpTo, Means}
use Rattle.cf_table.specs.Spelling.{extent_of, row_value}
use Rattle.cf_table.specs.Tables.{RisesFrom, row_of, with_row}
use Rattle.cf_table.specs.declared.rows.Row.{Row}

-- the same anchors and accesses

pub rebooked : (cluster : ℕ → List ℕ) (b c : Book) (rows : List Row) (items : List Item) → ((id : ItemId) → anchor_of c id ≡ anchor_of b id) → ((id : ItemId) → access_of c id ≡ access_of b id) → HoldRows cluster b rows items → HoldRows cluster c rows items
rebooked cluster b c [] [] anchors accesses h = tt
rebooked cluster b c [] (i ∷ is) anchors accesses h = absurd h
rebooked cluster b c (r ∷ rs) [] anchors accesses h = absurd h
rebooked cluster b c (r ∷ rs) (i ∷ is) anchors accesses h =
    (record { means = h.0.means; anchor = h.0.anchor ∙ sym (anchors i.id); last = h.0.last ∙ sym (accesses i.id); blocks = h.0.blocks; bytes = h.0.bytes }, rebooked cluster b c rs is anchors accesses h.1)

-- the volume with another book and other records, whose anchors and accesses are the same
module _ (s : State) (k : Known) (v : Volume) (b : Book) (clock : ℕ) (records records_then' keys_made' : List AuxRecord) (at : At s k v)
    (anchors : (id : ItemId) → anchor_of b id ≡ anchor_of v.book id) (accesses : (id : ItemId) → access_of b id ≡ access_of v.book id) (clock_is : clock ≡ b.clock) (records_is : records ≡ aux_records b) (fits : FitsTable v.items b)
    (known : (key : List ℕ) → record_then key records_then' keys_made' (find (λ r. same r.key key) records) ≡ record_then key k.records_then k.keys_made (find (λ r. same r.key key) k.records)) where
  pub rebooked_at : At s (record k { clock = clock; records = records; records_then = records_then'; keys_made = keys_made' }) (record v { book = b })
  rebooked_at = record {
    last = record {
      point = at.last.point;
      earlier = at.last.earlier;
      points_are = at.last.points_are;
      early = at.last.early;
      count = at.last.count;
      clock = at.last.clock;
      image = at.last.image;
      next = at.last.next;
      kept = at.last.kept;
      known = record { rows = at.last.known.rows; records = λ key. at.last.known.records key ∙ sym (known key) };
    };
    now = record {
      rows = rebooked (cluster_on s.seen) v.book b k.table.rows v.items anchors accesses at.now.rows;
      owns = at.now.owns;
      of_log = at.now.of_log;
      next = at.now.next;
      count = at.now.count;
      epoch = at.now.epoch;
      place = at.now.place;
      clock = clock_is;
      records = records_is;
      book = λ id e. (anchors id ∙ (at.now.book id e).0, accesses id ∙ (at.now.book id e).1);
      clusters = at.now.clusters;
      within = at.now.within;
      fits = fits;
      used = at.now.used;
      load = at.now.load;
      exact = at.now.exact;
    };
  }

-- ticks pass
pub passed_at : (s : State) (k : Known) (v : Volume) (ticks : ℕ) → At s k v → At s (record k { clock = min 18446744073709551615 (k.clock + ticks) }) (record v { book = with_ticks ticks v.book })
passed_at s k v ticks at = rebooked_at s k v (with_ticks ticks v.book) (min 18446744073709551615 (k.clock + ticks)) k.records k.records_then k.keys_made at (λ id. refl) (λ id. refl)
    (ap (λ (n : ℕ). min 18446744073709551615 (n + ticks)) at.now.clock) at.now.records (record { few = at.now.fits.few; short = at.now.fits.short }) (λ key. refl)

-- another row beside it, which means the same

module _ (s : State) (k : Known) (v : Volume) (b : Book) (id : ItemId) (r p : Row) (then' : List Row) (at : At s k v) (rises : RisesFrom 0 k.table.rows) (found : row_of k.table.rows id ≡ Some r)
    (means : (i : Item) → Means r i → Means p i) (id_is : p.id ≡ r.id) (at_id : r.id.0 ≡ id.0) (extents_is : p.extents ≡ r.extents)
    (anchor_is : p.anchor ≡ anchor_of b r.id) (last_is : p.last ≡ access_of b r.id)
    (anchors : (key : ItemId) → (key.0 ≡ id.0 → ⊥) → anchor_of b key ≡ anchor_of v.book key) (accesses : (key : ItemId) → (key.0 ≡ id.0 → ⊥) → access_of b key ≡ access_of v.book key)
    (clock_is : v.book.clock ≡ b.clock) (records_is : aux_records v.book ≡ aux_records b) (fits : FitsTable v.items b)
    (known : (key : ItemId) → row_then key then' k.next_then (row_of (with_row p k.table.rows) key) ≡ row_then key k.rows_then k.next_then (row_of k.table.rows key)) where
  p_id : p.id.0 ≡ id.0
  p_id = ap (λ (n : ItemId). n.0) id_is ∙ at_id

  here : (i : Item) × (item_of v.items id ≡ Some i) × HoldsRow (cluster_on s.seen) v.book r i
  here = row_holds (cluster_on s.seen) v.book k.table.rows v.items id r at.now.rows found

  other_row : (q : Row) (i : Item) → (q.id.0 ≡ id.0 → ⊥) → HoldsRow (cluster_on s.seen) v.book q i → HoldsRow (cluster_on s.seen) b q i
  other_row q i apart h =
      let away : i.id.0 ≡ id.0 → ⊥ = λ (e : i.id.0 ≡ id.0). apart (ap (λ (n : ItemId). n.0) h.means.id ∙ e) in
      record { means = h.means; anchor = h.anchor ∙ sym (anchors i.id away); last = h.last ∙ sym (accesses i.id away); blocks = h.blocks; bytes = h.bytes }

  this_row : (i : Item) → HoldsRow (cluster_on s.seen) v.book r i → HoldsRow (cluster_on s.seen) b p i
  this_row i h = record {
    means = means i h.means;
    anchor = anchor_is ∙ ap (anchor_of b) h.means.id;
    last = last_is ∙ ap (access_of b) h.means.id;
    blocks = ap (map (λ (e : ℕ × ℕ). e.0)) extents_is ∙ h.blocks;
    bytes = subst (λ (es : List (ℕ × ℕ)). HoldAll (cluster_on s.seen) i.held (map extent_of es)) (sym extents_is) h.bytes;
  }

  unchanged : (items : List Item) → changed id (λ i. i) items ≡ items
  unchanged [] = refl
  unchanged (i ∷ is) = λ j. either (eqb i.id.0 id.0) i j ∷ unchanged is j
    where
      either : (t : Bool) (x : Item) → cond t x x ≡ x
      either true x = refl
      either false x = refl

  all_rows : HoldRows (cluster_on s.seen) b (with_row p k.table.rows) v.items
  all_rows = subst (λ (l : List Item). HoldRows (cluster_on s.seen) b (with_row p k.table.rows) l) (unchanged v.items)
      (with_holds (cluster_on s.seen) (cluster_on s.seen) v.book b id (λ i. i) p p_id (λ q i apart h same. other_row q i apart h) 0 k.table.rows v.items r rises found this_row (λ j some. refl) at.now.rows)

  owned : Owns k.uses (clusters_in_rows (with_row p k.table.rows))
  owned j =
      let new = times_with p id 0 k.table.rows j p_id rises in
      let old = times_split id 0 k.table.rows j rises in
      let mine : named_by (row_of k.table.rows id) j ≡ times j (clusters_in_row r) = ap (λ (o : Option Row). named_by o j) found in
      let same : times j (clusters_in_row p) ≡ times j (clusters_in_row r) = ap (λ (es : List (ℕ × ℕ)). times j (map (λ (e : ℕ × ℕ). e.1) es)) extents_is in
      let o = at.now.owns j in
      omega (arith, new, old, mine, same, o)

  pub noted_at : At s (record k { table = record { rows = with_row p k.table.rows; next = k.table.next }; rows_then = then' }) (record v { book = b })
  noted_at = record {
    last = record {
      point = at.last.point;
      earlier = at.last.earlier;
      points_are = at.last.points_are;
      early = at.last.early;
      count = at.last.count;
      clock = at.last.clock;
      image = at.last.image;
      next = at.last.next;
      kept = at.last.kept;
      known = record { rows = λ key. at.last.known.rows key ∙ ap (option_map row_value) (sym (known key)); records = at.last.known.records };
    };
    now = record {
      rows = all_rows;
      owns = owned;
      of_log = at.now.of_log;
      next = at.now.next;
      count = at.now.count;
      epoch = at.now.epoch;
      place = at.now.place;
      clock = at.now.clock ∙ clock_is;
      records = at.now.records ∙ records_is;
      book = λ key e.
          let away : key.0 ≡ id.0 → ⊥ = λ (q : key.0 ≡ id.0). none-some here.0 (sym (sym here.1 ∙ ap (λ (n : ℕ). find (λ i. i.id.0 == n) v.items) (sym q) ∙ e)) in
          (anchors key away ∙ (at.now.book key e).0, accesses key away ∙ (at.now.book key e).1);
      clusters = at.now.clusters;
      within = at.now.within;
      fits = fits;
      used = at.now.used;
      load = at.now.load;
      exact = at.now.exact;
    };
  }

-- anchors and accesses after one was put

pub anchor_put : (id key : ItemId) (n : Usn) (b : Book) → anchor_of (with_anchor id n b) key ≡ cond (eqb id.0 key.0) n (anchor_of b key)
anchor_put id key n b =
    ap (part (λ a. a.number) no_usn) (found_put (λ a. a.item.0 == key.0) (λ x y. ltb x.item.0 y.item.0) (record { item = id; number = n }) (without_anchor id b.anchors)
    (λ e. found_left (λ a. a.item.0 == key.0) (λ a. a.item.0 == id.0) true b.anchors (λ x h. eq-eqb x.item.0 id.0 (eqb-true x.item.0 key.0 h ∙ sym (eqb-true id.0 key.0 e)))))
    ∙ by (eqb id.0 key.0) refl
  where
    by : (t : Bool) → eqb id.0 key.0 ≡ t → part (λ a. a.number) no_usn (cond t (Some (record { item = id; number = n })) (find (λ a. a.item.0 == key.0) (without_anchor id b.anchors))) ≡ cond t n (anchor_of b key)
    by true e = refl
    by false e = ap (part (λ a. a.number) no_usn) (found_left (λ a. a.item.0 == key.0) (λ a. a.item.0 == id.0) false b.anchors
        (λ x h. ne_eqb x.item.0 id.0 (λ q. true≢false (sym (eq-eqb id.0 key.0 (sym q ∙ eqb-true x.item.0 key.0 h)) ∙ e))))

pub access_put : (id key : ItemId) (b : Book) → access_of (with_access id b) key ≡ cond (eqb id.0 key.0) b.clock (access_of b key)
access_put id key b = by (eqb b.clock 0) refl
  where
    gone : eqb id.0 key.0 ≡ true → find (λ a. a.item.0 == key.0) (without_access id b.accesses) ≡ None
    gone e = found_left (λ a. a.item.0 == key.0) (λ a. a.item.0 == id.0) true b.accesses (λ x h. eq-eqb x.item.0 id.0 (eqb-true x.item.0 key.0 h ∙ sym (eqb-true id.0 key.0 e)))

    stays : eqb id.0 key.0 ≡ false → find (λ a. a.item.0 == key.0) (without_access id b.accesses) ≡ find (λ a. a.item.0 == key.0) b.accesses
    stays e = found_left (λ a. a.item.0 == key.0) (λ a. a.item.0 == id.0) false b.accesses (λ x h. ne_eqb x.item.0 id.0 (λ q. true≢false (sym (eq-eqb id.0 key.0 (sym q ∙ eqb-true x.item.0 key.0 h)) ∙ e)))

    put : find (λ a. a.item.0 == key.0) (put_in (λ x y. ltb x.item.0 y.item.0) (record { item = id; clock = b.clock }) (without_access id b.accesses)) ≡ cond (eqb id.0 key.0) (Some (record { item = id; clock = b.clock })) (find (λ a. a.item.0 == key.0) (without_access id b.accesses))
    put = found_put (λ a. a.item.0 == key.0) (λ x y. ltb x.item.0 y.item.0) (record { item = id; clock = b.clock }) (without_access id b.accesses) gone

    none : (t : Bool) → eqb id.0 key.0 ≡ t → b.clock ≡ 0 → part (λ a. a.clock) 0 (find (λ a. a.item.0 == key.0) (without_access id b.accesses)) ≡ cond t b.clock (access_of b key)
    none true e zero_is = ap (part (λ a. a.clock) 0) (gone e) ∙ sym zero_is
    none false e zero_is = ap (part (λ a. a.clock) 0) (stays e)

    some : (t : Bool) → eqb id.0 key.0 ≡ t → part (λ a. a.clock) 0 (cond t (Some (record { item = id; clock = b.clock })) (find (λ a. a.item.0 == key.0) (without_access id b.accesses))) ≡ cond t b.clock (access_of b key)
    some true e = refl
    some false e = ap (part (λ a. a.clock) 0) (stays e)

    by : (u : Bool) → eqb b.clock 0 ≡ u
        → part (λ a. a.clock) 0 (find (λ a. a.item.0 == key.0) (cond u (without_access id b.accesses) (put_in (λ x y. ltb x.item.0 y.item.0) (record { item = id; clock = b.clock }) (without_access id b.accesses)))) ≡ cond (eqb id.0 key.0) b.clock (access_of b key)
    by true e = none (eqb id.0 key.0) refl (eqb-true b.clock 0 e)
    by false e = ap (part (λ a. a.clock) 0) put ∙ some (eqb id.0 key.0) refl

-- an anchor makes no row longer

anchored_row : (b : Book) (id : ItemId) (n : Usn) (i : Item) → (i.id.0 ≡ id.0 → later_than n i.writes ≡ []) → row_len (with_anchor id n b) i ≤ row_len b i
anchored_row b id n i none = by (eqb id.0 i.id.0) refl
  where
    with_writes : (u : Usn) → anchor_of (with_anchor id n b) i.id ≡ u → count_runs false (covered_flags (writes_since (with_anchor id n b) i) i) ≡ count_runs false (covered_flags (later_than u i.writes) i)
    with_writes u e = ap (λ (m : Usn). count_runs false (covered_flags (later_than m i.writes) i)) e

    by : (t : Bool) → eqb id.0 i.id.0 ≡ t → row_len (with_anchor id n b) i ≤ row_len b i
    by true e =
        let is : anchor_of (with_anchor id n b) i.id ≡ n = anchor_put id i.id n b ∙ cond-true (eqb id.0 i.id.0) n (anchor_of b i.id) e in
        let zero_is : count_runs false (covered_flags (later_than n i.writes) i) ≡ 0 = ap (λ ws. count_runs false (covered_flags ws i)) (none (sym (eqb-true id.0 i.id.0 e))) ∙ none_covered 0 i.held in
        omega (arith, with_writes n is, zero_is)
    by false e =
        let is : anchor_of (with_anchor id n b) i.id ≡ anchor_of b i.id = anchor_put id i.id n b ∙ cond-false (eqb id.0 i.id.0) n (anchor_of b i.id) e in
        omega (arith, with_writes (anchor_of b i.id) is)

anchored_rows : (cluster : ℕ → List ℕ) (b : Book) (id : ItemId) (n : Usn) (rows : List Row) (items : List Item) → HoldRows cluster b rows items → ((i : Item) → item_of items id ≡ Some i → i.number ≡ n) → (low : ℕ) → RisesFrom low rows → sum_by (row_len (with_anchor id n b)) items ≤ sum_by (row_len b) items
anchored_rows cluster b id n [] [] h number low rises = omega arith
anchored_rows cluster b id n [] (i ∷ is) h number low rises = absurd h
anchored_rows cluster b id n (r ∷ rs) [] h number low rises = absurd h
anchored_rows cluster b id n (r ∷ rs) (i ∷ is) h number low rises =
    let first = anchored_row b id n i (λ e. none_above n i.writes (subst (λ (m : Usn). AreUpTo m i.writes) (number i (cond-true (eqb i.id.0 id.0) (Some i) (item_of is id) (eq-eqb i.id.0 id.0 e))) h.0.means.bytes.numbers)) in
    let rest = anchored_rows cluster b id n rs is h.1 (λ j found. number j (later j found)) (r.id.0 + 1) rises.1 in
    omega (arith, sum_by-cons (row_len (with_anchor id n b)) i is, sum_by-cons (row_len b) i is, first, rest)
  where
    later : (j : Item) → item_of is id ≡ Some j → item_of (i ∷ is) id ≡ Some j
    later j found = elim (cases_eq i.id.0 id.0) [
      | inl same_id ↦ absurd (none-some j (sym (past (r.id.0 + 1) rs is h.1 rises.1 (omega (arith, ap (λ (x : ItemId). x.0) h.0.means.id, same_id))) ∙ found))
      | inr apart ↦ cond-false (eqb i.id.0 id.0) (Some i) (item_of is id) (ne_eqb i.id.0 id.0 apart) ∙ found
    ]
      where
        past : (bound : ℕ) (xs : List Row) (js : List Item) → HoldRows cluster b xs js → RisesFrom bound xs → id.0 < bound → item_of js id ≡ None
        past bound [] [] g q lt = refl
        past bound [] (x ∷ y) g q lt = absurd g
        past bound (x ∷ xs) [] g q lt = absurd g
        past bound (x ∷ xs) (y ∷ js) g q lt = cond-false (eqb y.id.0 id.0) (Some y) (item_of js id) (ne_eqb y.id.0 id.0 (λ e. omega (arith, e, lt, q.0, ap (λ (z : ItemId). z.0) g.0.means.id))) ∙ past (x.id.0 + 1) xs js g.1 q.1 (omega (arith, lt, q.0))

pub anchored_fits : (cluster : ℕ → List ℕ) (b : Book) (id : ItemId) (n : Usn) (rows : List Row) (items : List Item) → HoldRows cluster b rows items → RisesFrom 0 rows → ((i : Item) → item_of items id ≡ Some i → i.number ≡ n) → FitsTable items b → FitsTable items (with_anchor id n b)
anchored_fits cluster b id n rows items h rises number fits = record { few = fits.few; short = (let less = anchored_rows cluster b id n rows items h number 0 rises in omega (arith, less, fits.short)) }
