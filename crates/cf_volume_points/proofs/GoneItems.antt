-- An item that is removed.
use Rattle.std.proofs.Common.{◌≡◌, inl, inr, ℕ, ◌+◌, ◌==◌, Bool, true, false, not, cond, eqb, max, List, [], ◌∷◌, take, refl, sym, ◌∙◌, ap, subst, arith, Option, Some, None}
use Rattle.std.specs.Prelude.{find, option_map}
use Rattle.std.proofs.lemmas.Bool.{cases_eq, cond-true, cond-false, eq-eqb, eqb-true, true≢false}
use Rattle.std.proofs.lemmas.List.{length-append}
use Rattle.std.proofs.lemmas.Option.{none-some}
use Rattle.cf_base.specs.declared.answers.Access.{Access}
use Rattle.cf_base.specs.declared.answers.Anchor.{Anchor}
use Rattle.cf_base.specs.declared.changes.Change.{Change}
use Rattle.cf_base.specs.declared.changes.Change.TheVariants as change
use Rattle.cf_base.specs.declared.ids.ItemId.{ItemId}
use Rattle.cf_base.specs.declared.ids.Usn.{Usn}
use Rattle.cf_base.specs.declared.answers.AuxRecord.{AuxRecord}
use Rattle.cf_clusters.specs.declared.uses.Use.{Use}
use Rattle.cf_disk.specs.Disk.{State}
use Rattle.cf_model.specs.Books.{Book, access_of, anchor_of, aux_records, book_after, without_access, without_anchor}
use Rattle.cf_model.specs.Changes.{next_number, put_change}
use Rattle.cf_model.specs.Effects.{without}
use Rattle.cf_model.specs.Items.{Item, item_of}
use Rattle.cf_model.specs.Numbers.{no_usn}
use Rattle.cf_model.specs.State.{Volume}
use Rattle.cf_model.specs.Words.{part}
use Rattle.cf_volume_points.specs.At.{At, Kept}
use Rattle.cf_volume_points.specs.Clusters.{Owns, clusters_in_rows, named_in, times}
use Rattle.cf_volume_points.specs.Holding.{FitsTable, HoldRows}
use Rattle.cf_volume_points.specs.Known.{Known, record_then, row_then}
use Rattle.cf_volume_points.specs.Staging.{DropsAll}
use Rattle.cf_volume_points.specs.Standing.{cluster_on}
use Rattle.cf_volume_points.proofs.LogSteps.{next_least, put_of_log, same_front}
use Rattle.cf_volume_points.proofs.Points.{Fair, kept_staged}
use Rattle.cf_volume_points.proofs.RowChanges.{named_by, rest_of, times_split, times_without}
use Rattle.cf_model.specs.Words.{same}
use Rattle.cf_table.specs.Spelling.{row_value}
use Rattle.cf_table.specs.Tables.{RisesFrom, row_of, without_row}
use Rattle.cf_table.specs.declared.rows.Row.{Row}

-- numbers of other items stay in the book

other_anchor : (id key : ItemId) (xs : List Anchor) → (key.0 ≡ id.0 → ⊥) → find (λ a. a.item.0 == key.0) (without_anchor id xs) ≡ find (λ a. a.item.0 == key.0) xs
other_anchor id key [] apart = refl
other_anchor id key (x ∷ xs) apart = by (eqb x.item.0 id.0) refl (eqb x.item.0 key.0) refl (other_anchor id key xs apart)
  where
    by : (t : Bool) → eqb x.item.0 id.0 ≡ t → (u : Bool) → eqb x.item.0 key.0 ≡ u → find (λ a. a.item.0 == key.0) (without_anchor id xs) ≡ find (λ a. a.item.0 == key.0) xs
        → find (λ a. a.item.0 == key.0) (cond (not t) (x ∷ without_anchor id xs) (without_anchor id xs)) ≡ cond u (Some x) (find (λ a. a.item.0 == key.0) xs)
    by true e true f h = absurd (apart (sym (eqb-true x.item.0 key.0 f) ∙ eqb-true x.item.0 id.0 e))
    by true e false f h = h
    by false e u f h = ap (λ (b : Bool). cond b (Some x) (find (λ a. a.item.0 == key.0) (without_anchor id xs))) f ∙ ap (cond u (Some x)) h

no_anchor : (id : ItemId) (xs : List Anchor) → find (λ a. a.item.0 == id.0) (without_anchor id xs) ≡ None
no_anchor id [] = refl
no_anchor id (x ∷ xs) = by (eqb x.item.0 id.0) refl (no_anchor id xs)
  where
    by : (t : Bool) → eqb x.item.0 id.0 ≡ t → find (λ a. a.item.0 == id.0) (without_anchor id xs) ≡ None → find (λ a. a.item.0 == id.0) (cond (not t) (x ∷ without_anchor id xs) (without_anchor id xs)) ≡ None
    by true e h = h
    by false e h = cond-false (eqb x.item.0 id.0) (Some x) (find (λ a. a.item.0 == id.0) (without_anchor id xs)) e ∙ h

other_access : (id key : ItemId) (xs : List Access) → (key.0 ≡ id.0 → ⊥) → find (λ a. a.item.0 == key.0) (without_access id xs) ≡ find (λ a. a.item.0 == key.0) xs
other_access id key [] apart = refl
other_access id key (x ∷ xs) apart = by (eqb x.item.0 id.0) refl (eqb x.item.0 key.0) refl (other_access id key xs apart)
  where
    by : (t : Bool) → eqb x.item.0 id.0 ≡ t → (u : Bool) → eqb x.item.0 key.0 ≡ u → find (λ a. a.item.0 == key.0) (without_access id xs) ≡ find (λ a. a.item.0 == key.0) xs
        → find (λ a. a.item.0 == key.0) (cond (not t) (x ∷ without_access id xs) (without_access id xs)) ≡ cond u (Some x) (find (λ a. a.item.0 == key.0) xs)
    by true e true f h = absurd (apart (sym (eqb-true x.item.0 key.0 f) ∙ eqb-true x.item.0 id.0 e))
    by true e false f h = h
    by false e u f h = ap (λ (b : Bool). cond b (Some x) (find (λ a. a.item.0 == key.0) (without_access id xs))) f ∙ ap (cond u (Some x)) h

no_access : (id : ItemId) (xs : List Access) → find (λ a. a.item.0 == id.0) (without_access id xs) ≡ None
no_access id [] = refl
no_access id (x ∷ xs) = by (eqb x.item.0 id.0) refl (no_access id xs)
  where
    by : (t : Bool) → eqb x.item.0 id.0 ≡ t → find (λ a. a.item.0 == id.0) (without_access id xs) ≡ None → find (λ a. a.item.0 == id.0) (cond (not t) (x ∷ without_access id xs) (without_access id xs)) ≡ None
    by true e h = h
    by false e h = cond-false (eqb x.item.0 id.0) (Some x) (find (λ a. a.item.0 == id.0) (without_access id xs)) e ∙ h

abbrev pub gone_book : ItemId → Book → Book
gone_book id b = book_after (change.Remove id) b

anchor_stays : (id key : ItemId) (b : Book) → (key.0 ≡ id.0 → ⊥) → anchor_of (gone_book id b) key ≡ anchor_of b key
anchor_stays id key b apart = ap (part (λ a. a.number) no_usn) (other_anchor id key b.anchors apart)

access_stays : (id key : ItemId) (b : Book) → (key.0 ≡ id.0 → ⊥) → access_of (gone_book id b) key ≡ access_of b key
access_stays id key b apart = ap (part (λ a. a.clock) 0) (other_access id key b.accesses apart)

-- the other rows hold their items under the book after it
without_holds : (cluster : ℕ → List ℕ) (b : Book) (id : ItemId) (rows : List Row) (items : List Item) → HoldRows cluster b rows items → HoldRows cluster (gone_book id b) (without_row id rows) (without id items)
without_holds cluster b id [] [] h = tt
without_holds cluster b id [] (i ∷ is) h = absurd h
without_holds cluster b id (r ∷ rs) [] h = absurd h
without_holds cluster b id (r ∷ rs) (i ∷ is) h = by (eqb r.id.0 id.0) refl (eqb i.id.0 id.0) (ap (λ (n : ItemId). eqb n.0 id.0) h.0.means.id) (without_holds cluster b id rs is h.1)
  where
    by : (t : Bool) → eqb r.id.0 id.0 ≡ t → (u : Bool) → eqb r.id.0 id.0 ≡ u → HoldRows cluster (gone_book id b) (without_row id rs) (without id is)
        → HoldRows cluster (gone_book id b) (cond (not t) (r ∷ without_row id rs) (without_row id rs)) (cond (not u) (i ∷ without id is) (without id is))
    by true e true f g = g
    by true e false f g = absurd (true≢false (sym e ∙ f))
    by false e true f g = absurd (true≢false (sym f ∙ e))
    by false e false f g =
        let apart : i.id.0 ≡ id.0 → ⊥ = λ (s : i.id.0 ≡ id.0). true≢false (sym (eq-eqb r.id.0 id.0 (ap (λ (n : ItemId). n.0) h.0.means.id ∙ s)) ∙ e) in
        (record { means = h.0.means; anchor = h.0.anchor ∙ sym (anchor_stays id i.id b apart); last = h.0.last ∙ sym (access_stays id i.id b apart); blocks = h.0.blocks; bytes = h.0.bytes }, g)

none_without : (id key : ItemId) (items : List Item) → (key.0 ≡ id.0 → ⊥) → item_of (without id items) key ≡ None → item_of items key ≡ None
none_without id key [] apart e = refl
none_without id key (i ∷ is) apart e = by (eqb i.id.0 id.0) refl (eqb i.id.0 key.0) refl e (none_without id key is apart)
  where
    by : (t : Bool) → eqb i.id.0 id.0 ≡ t → (u : Bool) → eqb i.id.0 key.0 ≡ u → item_of (cond (not t) (i ∷ without id is) (without id is)) key ≡ None → (item_of (without id is) key ≡ None → item_of is key ≡ None) → cond u (Some i) (item_of is key) ≡ None
    by true p true q e f = absurd (apart (sym (eqb-true i.id.0 key.0 q) ∙ eqb-true i.id.0 id.0 p))
    by true p false q e f = f e
    by false p true q e f = absurd (none-some i (sym (sym (cond-true (eqb i.id.0 key.0) (Some i) (item_of (without id is) key) q) ∙ e)))
    by false p false q e f = f (sym (cond-false (eqb i.id.0 key.0) (Some i) (item_of (without id is) key) q) ∙ e)

-- the volume without the item
module _ (s : State) (k : Known) (v : Volume) (id : ItemId) (uses : List Use) (records : List AuxRecord) (then' : List Row) (records_then keys_made : List AuxRecord) (fair : Fair s) (at : At s k v) (rises : RisesFrom 0 k.table.rows) (drops : DropsAll (named_in (row_of k.table.rows id)) k.uses uses)
    (records_is : records ≡ aux_records (gone_book id v.book)) (fits : FitsTable (without id v.items) (gone_book id v.book))
    (rows_known : (key : ItemId) → row_then key then' k.next_then (row_of (without_row id k.table.rows) key) ≡ row_then key k.rows_then k.next_then (row_of k.table.rows key))
    (records_known : (key : List ℕ) → record_then key records_then keys_made (find (λ r. same r.key key) records) ≡ record_then key k.records_then k.keys_made (find (λ r. same r.key key) k.records)) where
  abbrev pub gone_known : Known
  gone_known = record k { uses = uses; table = record { rows = without_row id k.table.rows; next = k.table.next }; records = records; place = k.place + 1; count = k.count + 1; rows_then = then'; records_then = records_then; keys_made = keys_made }

  named_is : (o : Option Row) (j : ℕ) → times j (named_in o) ≡ named_by o j
  named_is None j = refl
  named_is (Some r) j = refl

  owned : Owns uses (clusters_in_rows (without_row id k.table.rows))
  owned j = times_without id k.table.rows j ∙ drops.owns (rest_of id k.table.rows)
      (λ n. let a = times_split id 0 k.table.rows n rises in let b = named_is (row_of k.table.rows id) n in let o = at.now.owns n in omega (arith, a, b, o)) j

  no_anchors : (key : ItemId) → item_of (without id v.items) key ≡ None → (anchor_of (gone_book id v.book) key ≡ no_usn) × (access_of (gone_book id v.book) key ≡ 0)
  no_anchors key e = elim (cases_eq key.0 id.0) [
    | inl same_id ↦ let here : key ≡ id = (λ i. record { 0 = same_id i }) in
        (ap (anchor_of (gone_book id v.book)) here ∙ ap (part (λ a. a.number) no_usn) (no_anchor id v.book.anchors), ap (access_of (gone_book id v.book)) here ∙ ap (part (λ a. a.clock) 0) (no_access id v.book.accesses))
    | inr apart ↦ let was = at.now.book key (none_without id key v.items apart e) in (anchor_stays id key v.book apart ∙ was.0, access_stays id key v.book apart ∙ was.1)
  ]

  pub gone_at : At s gone_known (put_change (change.Remove id) v)
  gone_at = record {
    last = record {
      point = at.last.point;
      earlier = at.last.earlier;
      points_are = at.last.points_are;
      early = let e = length-append v.log ((next_number v, change.Remove id) ∷ []) in omega (arith, e, at.last.early);
      count = at.last.count;
      clock = at.last.clock;
      image = at.last.image;
      next = at.last.next;
      kept = subst (λ (l : List (Usn × Change)). Kept s k.journal uses v.epoch l at.last.point.book at.last.image) (sym (same_front at.last.point.count v.log (next_number v, change.Remove id) at.last.early))
          (kept_staged s s k.journal k.uses v.epoch (take at.last.point.count v.log) at.last.point.book fair at.last.kept uses drops.long drops.committed refl (record { size = refl; halves = refl; clusters = λ j lt h. refl })
          (record { later = omega arith; now = λ c left. (c, left, record { size = refl; halves = refl; clusters = λ j lt h. refl }); since = λ t c le left. inl left }));
      known = record { rows = λ key. at.last.known.rows key ∙ ap (option_map row_value) (sym (rows_known key)); records = λ key. at.last.known.records key ∙ sym (records_known key) };
    };
    now = record {
      rows = without_holds (cluster_on s.seen) v.book id k.table.rows v.items at.now.rows;
      owns = owned;
      of_log = put_of_log (change.Remove id) v at.now.of_log;
      next = let least = next_least v.log in let of = at.now.of_log.1 in let e : v.next_item.0 ≡ max v.next_item.0 2 = omega (arith, least, of) in at.now.next ∙ (λ j. record { 0 = e j });
      count = let e = length-append v.log ((next_number v, change.Remove id) ∷ []) in omega (arith, e, at.now.count);
      epoch = at.now.epoch;
      place = ap (λ (m : ℕ). m + 1) at.now.place;
      clock = at.now.clock;
      records = records_is;
      book = no_anchors;
      clusters = at.now.clusters;
      within = omega (arith, at.now.within, drops.long);
      fits = fits;
      used = omega (arith, at.now.used, drops.long, drops.free);
      load = omega (arith, at.now.load);
      exact = λ small. omega (arith, at.now.exact small);
    };
  }
