-- A change of an item that stays, carried out.
use Rattle.std.proofs.Common.{◌≡◌, ℕ, ◌+◌, ◌/◌, ◌≤◌, ◌==◌, Bool, true, false, cond, eqb, max, List, [], ◌∷◌, length, map, take, refl, sym, ◌∙◌, ap, subst, arith, Option, Some, None}
use Rattle.std.specs.Prelude.{find, option_map}
use Rattle.std.proofs.lemmas.Bool.{cond-true, cond-false, eqb-true}
use Rattle.std.proofs.lemmas.List.{length-append}
use Rattle.std.proofs.lemmas.List.Elements.{All-cons, All-nil}
use Rattle.std.proofs.lemmas.Option.{none-some, same_Some}
use Rattle.cf_base.specs.declared.changes.Change.{Change}
use Rattle.cf_base.specs.declared.ids.ItemId.{ItemId}
use Rattle.cf_base.specs.declared.ids.Usn.{Usn}
use Rattle.cf_volume_blocks.proofs.Elsewhere.{elsewhere, touches_block}
use Rattle.cf_volume_blocks.specs.Bytes.{holds_at, is_among, puts_in}
use Rattle.cf_clusters.specs.Area.{KeepsWhere}
use Rattle.cf_clusters.specs.Roles.{IsCommitted}
use Rattle.cf_clusters.specs.declared.uses.Use.{Use}
use Rattle.cf_disk.specs.Disk.{Leaves, State}
use Rattle.cf_model.specs.Blocks.{puts_into}
use Rattle.cf_model.specs.Books.{Book, access_of, anchor_of, aux_records, book_after}
use Rattle.cf_model.specs.Changes.{next_number, put_change}
use Rattle.cf_model.specs.Effects.{changed, effect}
use Rattle.cf_model.specs.Items.{Item, item_of}
use Rattle.cf_model.specs.Logs.{next_by}
use Rattle.cf_model.specs.State.{Volume}
use Rattle.cf_model.specs.Words.{part}
use Rattle.cf_volume_points.specs.At.{At, Kept}
use Rattle.cf_volume_points.specs.Clusters.{Owns, clusters_in_row, clusters_in_rows, times}
use Rattle.cf_volume_points.specs.Holding.{CountsMore, FitsTable, HoldRows, HoldsRow}
use Rattle.cf_volume_points.specs.Known.{Known, row_then}
use Rattle.cf_volume_points.specs.Staging.{AreBlocks, DropsGone, Moves}
use Rattle.cf_volume_points.specs.Standing.{IsBookOf, cluster_on}
use Rattle.cf_volume_points.proofs.Apart.{head_once}
use Rattle.cf_volume_points.proofs.FileRows.{final_blocks, final_bytes, start_blocks}
use Rattle.cf_volume_points.proofs.Frames.{SameIn, cluster_names, hold_frame}
use Rattle.cf_volume_points.proofs.LogSteps.{none_changed, put_of_log, next_least, same_front, same_item, stays_book, stays_next, stays_puts}
use Rattle.cf_volume_points.proofs.Points.{Fair, kept_staged}
use Rattle.cf_volume_points.proofs.RowChanges.{rest_of, times_with, with_holds}
use Rattle.cf_ranges.specs.Pairs.{IsRising}
use Rattle.cf_ranges.specs.Positions.{IsRuns, touches}
use Rattle.cf_table.proofs.StayingRows.{effect_is}
use Rattle.cf_table.specs.Applied.{item_effect}
use Rattle.cf_table.specs.Changing.{item_of_change, pin_for, stays}
use Rattle.cf_table.specs.Means.{Means}
use Rattle.cf_table.specs.Spelling.{extent_of, row_value}
use Rattle.cf_table.specs.Tables.{MeansAll, RisesFrom, row_of, with_row}
use Rattle.cf_table.specs.declared.rows.Row.{Row}

pub rows_mean : (cluster : ℕ → List ℕ) (b : Book) (rows : List Row) (items : List Item) → HoldRows cluster b rows items → MeansAll rows items
rows_mean cluster b [] [] h = tt
rows_mean cluster b [] (i ∷ is) h = absurd h
rows_mean cluster b (r ∷ rs) [] h = absurd h
rows_mean cluster b (r ∷ rs) (i ∷ is) h = (h.0.means, rows_mean cluster b rs is h.1)

-- the item of a row
pub row_holds : (cluster : ℕ → List ℕ) (b : Book) (rows : List Row) (items : List Item) (id : ItemId) (r : Row) → HoldRows cluster b rows items → row_of rows id ≡ Some r → (i : Item) × (item_of items id ≡ Some i) × HoldsRow cluster b r i
row_holds cluster b [] [] id r h found = absurd (none-some r found)
row_holds cluster b [] (i ∷ is) id r h found = absurd h
row_holds cluster b (x ∷ xs) [] id r h found = absurd h
row_holds cluster b (x ∷ xs) (i ∷ is) id r h found = by (eqb x.id.0 id.0) refl found (row_holds cluster b xs is id r h.1)
  where
    same : eqb i.id.0 id.0 ≡ eqb x.id.0 id.0
    same = ap (λ (n : ItemId). eqb n.0 id.0) (sym h.0.means.id)

    by : (t : Bool) → eqb x.id.0 id.0 ≡ t → cond t (Some x) (row_of xs id) ≡ Some r → (row_of xs id ≡ Some r → (j : Item) × (item_of is id ≡ Some j) × HoldsRow cluster b r j) → (j : Item) × (item_of (i ∷ is) id ≡ Some j) × HoldsRow cluster b r j
    by true e f g = (i, cond-true (eqb i.id.0 id.0) (Some i) (item_of is id) (same ∙ e), subst (λ (y : Row). HoldsRow cluster b y i) (same_Some x r f) h.0)
    by false e f g = let rest = g f in (rest.0, cond-false (eqb i.id.0 id.0) (Some i) (item_of is id) (same ∙ e) ∙ rest.1, rest.2)

-- clusters that are the same wherever they are named
pub same_in : (old new : ℕ → List ℕ) (ks : List ℕ) → ((k : ℕ) → 1 ≤ times k ks → new k ≡ old k) → SameIn old new ks
same_in old new [] h = All-nil (λ k. new k ≡ old k)
same_in old new (k ∷ ks) h = All-cons (λ j. new j ≡ old j) k ks (h k (let e = head_once k ks in omega (arith, e))) (same_in old new ks (λ j some. h j (omega (arith, some))))

pub row_frame : (old new : ℕ → List ℕ) (b : Book) (r : Row) (i : Item) → ((k : ℕ) → 1 ≤ times k (clusters_in_row r) → new k ≡ old k) → HoldsRow old b r i → HoldsRow new b r i
row_frame old new b r i same h = record {
  means = h.means;
  anchor = h.anchor;
  last = h.last;
  blocks = h.blocks;
  bytes = hold_frame old new i.held (map extent_of r.extents) (subst (λ (l : List ℕ). SameIn old new l) (sym (cluster_names r.extents)) (same_in old new (clusters_in_row r) same)) h.bytes;
}

-- the row of an item, changed, and its extents as staged and dropped
module _ (s t : State) (k : Known) (v : Volume) (c : Change) (r p : Row) (mid uses : List Use) (puts : List ℕ) (since : ℕ) (es : List (ℕ × ℕ)) (then' : List Row)
    (fair : Fair s) (at : At s k v) (rises : RisesFrom 0 k.table.rows) (rising : IsRising r.extents) (kind : stays c ≡ true) (found : row_of k.table.rows (item_of_change c) ≡ Some r)
    (means : (i : Item) → Means r i → Means p (item_effect c (pin_for c k.table.rows) (next_number v) i)) (id_is : p.id ≡ r.id) (anchor_is : p.anchor ≡ r.anchor) (last_is : p.last ≡ r.last) (runs : IsRuns p.here)
    (puts_are : (i : Item) → Means r i → puts ≡ puts_in c i.held) (counts : CountsMore k.put_since (length puts) since) (moves : Moves (length puts) s t k.uses mid) (leaves : Leaves s t (KeepsWhere IsCommitted k.uses s))
    (staged : (rest : ℕ → ℕ) (was : ℕ → List ℕ) (i : Item) → Means r i → AreBlocks rest was i.held (item_effect c (pin_for c k.table.rows) (next_number v) i).held [] k.uses r.extents (cluster_on s.seen)
    → AreBlocks rest was i.held (item_effect c (pin_for c k.table.rows) (next_number v) i).held puts mid es (cluster_on t.seen))
    (drops : DropsGone p.here mid uses es p.extents) (fits : FitsTable (effect v.items c (next_number v)) (book_after c v.book))
    (known : (id : ItemId) → row_then id then' k.next_then (row_of (with_row p k.table.rows) id) ≡ row_then id k.rows_then k.next_then (row_of k.table.rows id)) where
  abbrev key : ItemId
  key = item_of_change c

  abbrev change_item : Item → Item
  change_item i = item_effect c (pin_for c k.table.rows) (next_number v) i

  abbrev pub changed_known : Known
  changed_known = record k { uses = uses; table = record { rows = with_row p k.table.rows; next = k.table.next }; place = k.place + 1; count = k.count + 1; rows_then = then'; put_since = since }

  row_id : (q : Row) (rows : List Row) → row_of rows key ≡ Some q → q.id.0 ≡ key.0
  row_id q [] e = absurd (none-some q e)
  row_id q (x ∷ xs) e = by (eqb x.id.0 key.0) refl e (row_id q xs)
    where
      by : (u : Bool) → eqb x.id.0 key.0 ≡ u → cond u (Some x) (row_of xs key) ≡ Some q → (row_of xs key ≡ Some q → q.id.0 ≡ key.0) → q.id.0 ≡ key.0
      by true h f rest = ap (λ (y : Row). y.id.0) (sym (same_Some x q f)) ∙ eqb-true x.id.0 key.0 h
      by false h f rest = rest f

  p_id : p.id.0 ≡ key.0
  p_id = ap (λ (n : ItemId). n.0) id_is ∙ row_id r k.table.rows found

  here : (i : Item) × (item_of v.items key ≡ Some i) × HoldsRow (cluster_on s.seen) v.book r i
  here = row_holds (cluster_on s.seen) v.book k.table.rows v.items key r at.now.rows found

  blocks_of_item : (i : Item) → HoldsRow (cluster_on s.seen) v.book r i → AreBlocks (rest_of key k.table.rows) (cluster_on s.seen) i.held (change_item i).held puts mid es (cluster_on t.seen)
  blocks_of_item i h = staged (rest_of key k.table.rows) (cluster_on s.seen) i h.means
      (start_blocks (cluster_on s.seen) v.book k.table.rows 0 key r i k.uses (change_item i).held rises found rising at.now.owns h)

  item_row : (i : Item) → HoldsRow (cluster_on s.seen) v.book r i → HoldsRow (cluster_on t.seen) v.book p (change_item i)
  item_row i h =
      let m : Means p (change_item i) = means i h.means in
      let blocks = blocks_of_item i h in
      let out : (q w : ℕ) → is_among puts (q / 4096) ≡ false → holds_at (change_item i).held q w ≡ true → holds_at i.held q w ≡ true
      = λ q w o e. elsewhere c i (pin_for c k.table.rows) (next_number v) q w (ap (λ (l : List ℕ). is_among l (q / 4096)) (sym (puts_are i h.means)) ∙ o) e in
      record {
        means = m;
        anchor = anchor_is ∙ h.anchor ∙ ap (λ (n : ItemId). anchor_of v.book n) (sym (same_item c (pin_for c k.table.rows) (next_number v) i));
        last = last_is ∙ h.last ∙ ap (λ (n : ItemId). access_of v.book n) (sym (same_item c (pin_for c k.table.rows) (next_number v) i));
        blocks = final_blocks (rest_of key k.table.rows) (cluster_on s.seen) i.held (change_item i).held puts mid es p.extents (cluster_on t.seen) (touches p.here) blocks drops.each (touches_block p.here (change_item i).held runs m.bytes.here) drops.rising out;
        bytes = final_bytes (rest_of key k.table.rows) (cluster_on s.seen) i.held (change_item i).held puts mid es p.extents (cluster_on t.seen) (touches p.here) blocks drops.each (touches_block p.here (change_item i).held runs m.bytes.here) drops.rising out;
      }

  all_rows : HoldRows (cluster_on t.seen) v.book (with_row p k.table.rows) (changed key change_item v.items)
  all_rows = with_holds (cluster_on s.seen) (cluster_on t.seen) v.book v.book key change_item p p_id
      (λ q i apart h same. row_frame (cluster_on s.seen) (cluster_on t.seen) v.book q i same h)
      0 k.table.rows v.items r rises found item_row (λ j some. (blocks_of_item here.0 here.2).others j some) at.now.rows

  items_are : changed key change_item v.items ≡ effect v.items c (next_number v)
  items_are = effect_is c (next_number v) k.table.rows v.items kind (rows_mean (cluster_on s.seen) v.book k.table.rows v.items at.now.rows)

  owned : Owns uses (clusters_in_rows (with_row p k.table.rows))
  owned j =
      let all = times_with p key 0 k.table.rows j p_id rises in
      let mine = drops.owns (rest_of key k.table.rows) (blocks_of_item here.0 here.2).owns j in
      omega (arith, all, mine)

  no_more : (id : ItemId) → item_of (effect v.items c (next_number v)) id ≡ None → item_of v.items id ≡ None
  no_more id e = none_changed key change_item v.items id (same_item c (pin_for c k.table.rows) (next_number v)) (ap (λ (l : List Item). item_of l id) items_are ∙ e)

  book_is : book_after c v.book ≡ v.book
  book_is = stays_book c v.book kind

  new_clusters : length uses ≡ length k.uses
  new_clusters = drops.long ∙ moves.long

  put_count : length (puts_into v.items c) ≡ length puts
  put_count = ap length (stays_puts c v.items kind ∙ ap (λ (o : Option Item). puts_in c (part (λ i. i.held) [] o)) here.1 ∙ sym (puts_are here.0 here.2.means))

  next_is : k.table.next ≡ record { 0 = max v.next_item.0 (next_by c) }
  next_is = let least = next_least v.log in let by = stays_next c kind in let same = at.now.of_log.1 in let e : v.next_item.0 ≡ max v.next_item.0 (next_by c) = omega (arith, least, by, same) in at.now.next ∙ (λ j. record { 0 = e j })

  -- the volume with one more change
  pub changed_at : At t changed_known (put_change c v)
  changed_at = record {
    last = record {
      point = at.last.point;
      earlier = at.last.earlier;
      points_are = at.last.points_are;
      early = let e = length-append v.log ((next_number v, c) ∷ []) in omega (arith, e, at.last.early);
      count = at.last.count;
      clock = at.last.clock;
      image = at.last.image;
      next = at.last.next;
      kept = subst (λ (l : List (Usn × Change)). Kept t k.journal uses v.epoch l at.last.point.book at.last.image) (sym (same_front at.last.point.count v.log (next_number v, c) at.last.early)) still;
      known = record { rows = λ id. known_rows id; records = at.last.known.records };
    };
    now = record {
      rows = subst (λ (l : List Item). HoldRows (cluster_on t.seen) (book_after c v.book) (with_row p k.table.rows) l) items_are (subst (λ (b : Book). HoldRows (cluster_on t.seen) b (with_row p k.table.rows) (changed key change_item v.items)) (sym book_is) all_rows);
      owns = owned;
      of_log = put_of_log c v at.now.of_log;
      next = next_is;
      count = let e = length-append v.log ((next_number v, c) ∷ []) in omega (arith, e, at.now.count);
      epoch = at.now.epoch;
      place = ap (λ (n : ℕ). n + 1) at.now.place;
      clock = at.now.clock ∙ ap (λ (b : Book). b.clock) (sym book_is);
      records = at.now.records ∙ ap aux_records (sym book_is);
      book = subst (λ (b : Book). IsBookOf (effect v.items c (next_number v)) b) (sym book_is) (λ id e. at.now.book id (no_more id e));
      clusters = at.now.clusters;
      within = omega (arith, at.now.within, new_clusters);
      fits = fits;
      used = omega (arith, at.now.used, new_clusters, moves.free, drops.free, put_count);
      load = omega (arith, at.now.load, counts.most, put_count);
      exact = λ small. let more = counts.exact small in omega (arith, more, at.now.exact (omega (arith, more, small)), put_count);
    };
  }
    where
      still : Kept t k.journal uses v.epoch (take at.last.point.count v.log) at.last.point.book at.last.image
      still = kept_staged s t k.journal k.uses v.epoch (take at.last.point.count v.log) at.last.point.book fair at.last.kept uses new_clusters (λ j h. drops.committed j (moves.committed j h)) moves.size moves.same leaves

      known_rows : (id : ItemId) → find (λ q. q.id.0 == id.0) at.last.image.rows ≡ option_map row_value (row_then id then' k.next_then (row_of (with_row p k.table.rows) id))
      known_rows id = at.last.known.rows id ∙ ap (option_map row_value) (sym (known id))
