-- A table without an item, and the records without its path seen.
use Rattle.std.proofs.Common.{◌≡◌, inl, inr, ℕ, suc, ◌+◌, ◌^◌, ◌<◌, ◌≤◌, ◌==◌, Bool, true, false, not, cond, eqb, List, [], ◌∷◌, ◌++◌, length, refl, sym, ◌∙◌, ap, subst, arith, None}
use Rattle.std.specs.Prelude.{All, filter, sum_by}
use Rattle.std.proofs.lemmas.Bool.{cases_Bool, eq-eqb, eqb-true, ne_eqb, true≢false}
use Rattle.std.proofs.lemmas.List.Elements.{All-append, All-cons, All-head, All-nil, All-tail}
use Rattle.std.proofs.lemmas.List.Sums.{sum_by-cons}
use Rattle.cf_base.specs.declared.answers.AuxRecord.{AuxRecord}
use Rattle.cf_base.specs.declared.changes.Change.TheVariants as change
use Rattle.cf_base.specs.declared.ids.ItemId.{ItemId}
use Rattle.cf_base.specs.declared.ids.Usn.{Usn}
use Rattle.cf_volume_points.proofs.Lookups.{at_without}
use Rattle.cf_clusters.specs.declared.uses.Use.{Use}
use Rattle.cf_disk.specs.Disk.{State}
use Rattle.cf_volume_image.specs.Contents.{record_at}
use Rattle.cf_model.specs.Books.{Book, anchor_of, aux_records, book_after}
use Rattle.cf_model.specs.Changes.{put_change, why_no_room}
use Rattle.cf_model.specs.Effects.{later_than, without}
use Rattle.cf_model.specs.Formats.{without_record}
use Rattle.cf_model.specs.Images.{aux_len, count_runs, row_len}
use Rattle.cf_model.specs.Items.{Item, covered_flags}
use Rattle.cf_model.specs.Numbers.{most, no_usn, usn_after}
use Rattle.cf_model.specs.State.{Volume}
use Rattle.cf_model.specs.Words.{part, same}
use Rattle.cf_volume_points.proofs.Found.{found_left}
use Rattle.cf_volume_points.proofs.Frames.{all_left, all_right, clusters_more}
use Rattle.cf_volume_points.proofs.GoneItems.{gone_at}
use Rattle.cf_volume_points.proofs.Points.{Fair}
use Rattle.cf_volume_points.specs.At.{At}
use Rattle.cf_volume_points.specs.Clusters.{clusters_in_row, clusters_in_rows, named_in}
use Rattle.cf_volume_points.specs.Holding.{FitsTable}
use Rattle.cf_volume_points.specs.Keeping.{AreShortIds}
use Rattle.cf_volume_points.specs.Known.{Known, record_then}
use Rattle.cf_volume_points.specs.Staging.{DropsAll}
use Rattle.cf_table.proofs.NamedEntries.{same_is}
use Rattle.cf_table.specs.Means.{IsLater}
use Rattle.cf_table.specs.Spelling.{HasRoom}
use Rattle.cf_table.specs.Tables.{RisesFrom, Table, row_of, without_row}
use Rattle.cf_table.specs.declared.rows.Row.{Row}
use Rattle.cf_table.proofs.NextChange.{next_goes_on}
use Rattle.cf_volume_changes.proofs.Judged.{numbers_left, refusal_is}
use Rattle.cf_volume_changes.proofs.Puts.{known_without, later_next}
use Rattle.cf_volume_changes.proofs.SeenGone.{seen_gone}
use Rattle.cf_volume_changes.specs.Keys.{seen_key}
use Rattle.cf_volume_changes.specs.Notes.{Notes, NotesKey}
use Rattle.cf_volume_changes.specs.Steady.{Steady}

-- lists with fewer elements

pub lighter_left : {A : Type 0} (g : A → ℕ) (f : A → Bool) (xs : List A) → sum_by g (filter f xs) ≤ sum_by g xs
lighter_left {A} g f [] = omega arith
lighter_left {A} g f (x ∷ xs) = by (f x) (lighter_left g f xs)
  where
    by : (t : Bool) → sum_by g (filter f xs) ≤ sum_by g xs → sum_by g (cond t (x ∷ filter f xs) (filter f xs)) ≤ sum_by g (x ∷ xs)
    by true h = omega (arith, h, sum_by-cons g x xs, sum_by-cons g x (filter f xs))
    by false h = omega (arith, h, sum_by-cons g x xs)

fewer_left : {A : Type 0} (f : A → Bool) (xs : List A) → length (filter f xs) ≤ length xs
fewer_left {A} f [] = omega arith
fewer_left {A} f (x ∷ xs) = by (f x) (fewer_left f xs)
  where
    by : (t : Bool) → length (filter f xs) ≤ length xs → length (cond t (x ∷ filter f xs) (filter f xs)) ≤ suc (length xs)
    by true h = omega (arith, h)
    by false h = omega (arith, h)

all_filtered : {A : Type 0} (P : A → Type 0) (f : A → Bool) (xs : List A) → All P xs → All P (filter f xs)
all_filtered {A} P f [] h = All-nil P
all_filtered {A} P f (x ∷ xs) h = by (f x) (All-head P x xs h) (all_filtered P f xs (All-tail P x xs h))
  where
    by : (t : Bool) → P x → All P (filter f xs) → All P (cond t (x ∷ filter f xs) (filter f xs))
    by true mine rest = All-cons P x (filter f xs) mine rest
    by false mine rest = rest

inside_left : (P : ℕ → Type 0) (f : Row → Bool) (rows : List Row) → All P (clusters_in_rows rows) → All P (clusters_in_rows (filter f rows))
inside_left P f [] all = all
inside_left P f (r ∷ rs) all =
    let split : All P (clusters_in_row r ++ clusters_in_rows rs) = subst (λ (l : List ℕ). All P l) (clusters_more r rs) all in
    by (f r) (all_left P (clusters_in_row r) (clusters_in_rows rs) split) (inside_left P f rs (all_right P (clusters_in_row r) (clusters_in_rows rs) split))
  where
    by : (t : Bool) → All P (clusters_in_row r) → All P (clusters_in_rows (filter f rs)) → All P (clusters_in_rows (cond t (r ∷ filter f rs) (filter f rs)))
    by true mine rest = subst (λ (l : List ℕ). All P l) (sym (clusters_more r (filter f rs))) (All-append P (clusters_in_row r) (clusters_in_rows (filter f rs)) mine rest)
    by false mine rest = rest

-- the image gets no longer

pub anchor_left : (id key : ItemId) (b : Book) → (key.0 ≡ id.0 → ⊥) → anchor_of (book_after (change.Remove id) b) key ≡ anchor_of b key
anchor_left id key b apart = ap (part (λ a. a.number) no_usn)
    (found_left (λ a. a.item.0 == key.0) (λ a. a.item.0 == id.0) false b.anchors (λ x h. ne_eqb x.item.0 id.0 (λ q. apart (sym (eqb-true x.item.0 key.0 h) ∙ q))))

pub row_left : (id : ItemId) (b : Book) (i : Item) → (i.id.0 ≡ id.0 → ⊥) → row_len (book_after (change.Remove id) b) i ≡ row_len b i
row_left id b i apart =
    let since = ap (λ (m : Usn). count_runs false (covered_flags (later_than m i.writes) i)) (anchor_left id i.id b apart) in
    omega (arith, since)

rows_left : (id : ItemId) (b : Book) (items : List Item) → sum_by (row_len (book_after (change.Remove id) b)) (without id items) ≤ sum_by (row_len b) items
rows_left id b [] = omega arith
rows_left id b (i ∷ is) = by (eqb i.id.0 id.0) refl (rows_left id b is)
  where
    by : (t : Bool) → eqb i.id.0 id.0 ≡ t → sum_by (row_len (book_after (change.Remove id) b)) (without id is) ≤ sum_by (row_len b) is
        → sum_by (row_len (book_after (change.Remove id) b)) (cond (not t) (i ∷ without id is) (without id is)) ≤ sum_by (row_len b) (i ∷ is)
    by true e h = omega (arith, h, sum_by-cons (row_len b) i is)
    by false e h =
        let mine = row_left id b i (λ (q : i.id.0 ≡ id.0). true≢false (sym (eq-eqb i.id.0 id.0 q) ∙ e)) in
        omega (arith, h, mine, sum_by-cons (row_len b) i is, sum_by-cons (row_len (book_after (change.Remove id) b)) i (without id is))

gone_fits : (id : ItemId) (items : List Item) (b : Book) → aux_records (book_after (change.Remove id) b) ≡ without_record (seen_key id) (aux_records b) → FitsTable items b → FitsTable (without id items) (book_after (change.Remove id) b)
gone_fits id items b records fits =
    let rows = rows_left id b items in
    let less = lighter_left aux_len (λ r. not (same r.key (seen_key id))) (aux_records b) in
    let is = ap (sum_by aux_len) records in
    record {
      few = omega (arith, fits.few, fewer_left (λ (i : Item). not (i.id.0 == id.0)) items);
      short = omega (arith, fits.short, rows, less, is);
    }

-- what is known of the last point

row_gone : (id key : ItemId) (rows : List Row) → row_of (without_row id rows) key ≡ cond (eqb id.0 key.0) None (row_of rows key)
row_gone id key rows = found_left (λ r. r.id.0 == key.0) (λ r. r.id.0 == id.0) (eqb id.0 key.0) rows (λ x h. ap (λ (n : ℕ). eqb n id.0) (eqb-true x.id.0 key.0 h) ∙ turned key.0 id.0)
  where
    turned : (a b : ℕ) → eqb a b ≡ eqb b a
    turned a b = by (eqb a b) refl (eqb b a) refl
      where
        by : (t : Bool) → eqb a b ≡ t → (u : Bool) → eqb b a ≡ u → t ≡ u
        by true e true f = refl
        by true e false f = absurd (true≢false (sym (eq-eqb b a (sym (eqb-true a b e))) ∙ f))
        by false e true f = absurd (true≢false (sym (eq-eqb a b (sym (eqb-true b a f))) ∙ e))
        by false e false f = refl

pub key_known : (key : List ℕ) (records after old new made made' : List AuxRecord) → NotesKey key records old new made made' → ((k : List ℕ) → same key k ≡ false → record_at after k ≡ record_at records k)
    → (k : List ℕ) → record_then k new made' (record_at after k) ≡ record_then k old made (record_at records k)
key_known key records after old new made made' notes others k = elim (cases_Bool (same key k)) [
  | inl hit ↦ subst (λ (l : List ℕ). record_then l new made' (record_at after l) ≡ record_then l old made (record_at records l)) (same_is key k hit) (notes.here (record_at after key))
  | inr miss ↦ notes.others k (record_at after k) miss ∙ ap (record_then k old made) (others k miss)
]

module _ (s : State) (size : ℕ) (k : Known) (id : ItemId) (uses : List Use) (after : Table) (records : List AuxRecord) (then' : List Row) (records_then' keys_made' : List AuxRecord) (low : id.0 < 2 ^ 64) (steady : Steady size k) (rises : RisesFrom 0 k.table.rows)
    (drops : DropsAll (named_in (row_of k.table.rows id)) k.uses uses) (after_is : after ≡ record { rows = without_row id k.table.rows; next = k.table.next }) (records_is : records ≡ without_record (seen_key id) k.records)
    (notes : Notes id k.next_then k.table.rows k.rows_then then') (key_notes : NotesKey (seen_key id) k.records k.records_then records_then' k.keys_made keys_made') where
  abbrev pub gone : Known
  gone = record k { uses = uses; table = after; records = records; place = k.place + 1; count = k.count + 1; rows_then = then'; records_then = records_then'; keys_made = keys_made' }

  pub gone_put : (v : Volume) → Fair s → At s k v → AreShortIds v.book.seen → At s gone (put_change (change.Remove id) v)
  gone_put v fair at short =
      let law = seen_gone id v.book low short in
      subst (λ (t : Table). At s (record k { uses = uses; table = t; records = records; place = k.place + 1; count = k.count + 1; rows_then = then'; records_then = records_then'; keys_made = keys_made' }) (put_change (change.Remove id) v)) (sym after_is)
      (gone_at s k v id uses records then' records_then' keys_made' fair at rises drops
      (records_is ∙ ap (without_record (seen_key id)) at.now.records ∙ sym law) (gone_fits id v.items v.book law at.now.fits)
      (known_without id k.next_then k.table.rows (without_row id k.table.rows) k.rows_then then' (λ key. row_gone id key k.table.rows) notes)
      (key_known (seen_key id) k.records records k.records_then records_then' k.keys_made keys_made' key_notes (λ key miss. ap (λ (l : List AuxRecord). record_at l key) records_is ∙ at_without (seen_key id) key false k.records miss)))

  pub gone_steady : Steady size gone
  gone_steady = subst (λ (t : Table). Steady size (record k { uses = uses; table = t; records = records; place = k.place + 1; count = k.count + 1; rows_then = then'; records_then = records_then'; keys_made = keys_made' })) (sym after_is) (record {
    fit = steady.fit;
    clusters = drops.long ∙ steady.clusters;
    inside = inside_left (λ j. j < length uses) (λ (r : Row). not (r.id.0 == id.0)) k.table.rows (subst (λ (n : ℕ). All (λ j. j < n) (clusters_in_rows k.table.rows)) (sym drops.long) steady.inside);
    room = all_filtered HasRoom (λ (r : Row). not (r.id.0 == id.0)) k.table.rows steady.room;
    later = all_filtered (λ x. IsLater (usn_after k.epoch (k.place + 1)) x) (λ (r : Row). not (r.id.0 == id.0)) k.table.rows (next_goes_on (usn_after k.epoch k.place) (usn_after k.epoch (k.place + 1)) k.table.rows (later_next k.epoch k.place) steady.later);
    earlier = steady.earlier;
    usable = steady.usable;
  })

-- a removal is refused for want of a number alone
pub gone_fitting : (s : State) (k : Known) (v : Volume) (id : ItemId) → At s k v → k.place < most → why_no_room (change.Remove id ∷ []) v ≡ None
gone_fitting s k v id at left = refusal_is (change.Remove id) v false false (numbers_left (change.Remove id) v refl (omega (arith, left, at.now.place))) refl refl
