-- A new item.
use Rattle.std.proofs.Common.{◌≡◌, ℕ, zero, suc, ◌+◌, ◌<◌, ◌≤◌, Bool, true, false, cond, eqb, ltb, List, [], ◌∷◌, ◌++◌, length, map, take, replicate, refl, sym, ◌∙◌, ap, subst, arith, Option, Some, None}
use Rattle.std.specs.Prelude.{All, filter, option_map}
use Rattle.std.proofs.lemmas.Bool.{cond-true, cond-false, lt-ltb, ne_eqb}
use Rattle.std.proofs.lemmas.List.{length-append}
use Rattle.std.proofs.lemmas.List.Elements.{All-head, All-tail}
use Rattle.std.proofs.lemmas.Option.{none-some}
use Rattle.cf_base.specs.declared.changes.Change.{Change}
use Rattle.cf_base.specs.declared.ids.ItemId.{ItemId}
use Rattle.cf_base.specs.declared.ids.Usn.{Usn}
use Rattle.cf_volume_blocks.proofs.Elsewhere.{no_block}
use Rattle.cf_clusters.specs.Area.{KeepsWhere}
use Rattle.cf_clusters.specs.Roles.{IsCommitted}
use Rattle.cf_clusters.specs.declared.uses.Use.{Use}
use Rattle.cf_disk.specs.Disk.{Leaves, State}
use Rattle.cf_model.specs.Blocks.{block_has_byte, blocks_holding, blocks_in, puts_into}
use Rattle.cf_model.specs.Books.{Book, access_of, anchor_of, aux_records, book_after}
use Rattle.cf_model.specs.Changes.{next_number, put_change}
use Rattle.cf_model.specs.Effects.{effect}
use Rattle.cf_model.specs.Items.{Item, is_held, item_of}
use Rattle.cf_model.specs.Numbers.{no_usn}
use Rattle.cf_model.specs.State.{Volume}
use Rattle.cf_model.specs.Words.{counting}
use Rattle.cf_volume_points.specs.At.{At, Kept}
use Rattle.cf_volume_points.specs.Clusters.{clusters_in_row, clusters_in_rows, once, times}
use Rattle.cf_volume_points.specs.Holding.{CountsMore, FitsTable, HoldRows, HoldsRow}
use Rattle.cf_volume_points.specs.Known.{Known, row_then}
use Rattle.cf_volume_points.specs.Staging.{Moves}
use Rattle.cf_volume_points.specs.Standing.{IsBookOf, cluster_on}
use Rattle.cf_volume_points.proofs.Apart.{times-append}
use Rattle.cf_volume_points.proofs.Frames.{clusters_more, holding_frame}
use Rattle.cf_volume_points.proofs.ItemChanges.{same_in}
use Rattle.cf_volume_points.proofs.LogSteps.{put_of_log, same_front}
use Rattle.cf_volume_points.proofs.Points.{Fair, kept_staged}
use Rattle.cf_table.specs.Means.{IsFresh, Means}
use Rattle.cf_model.specs.Standing.{HoldAll}
use Rattle.cf_table.specs.Spelling.{extent_of, row_value}
use Rattle.cf_table.specs.Tables.{row_of, with_row}
use Rattle.cf_table.specs.declared.rows.Row.{Row}

-- a row behind all others
pub with_last : (p : Row) (rows : List Row) → All (λ r. r.id.0 < p.id.0) rows → with_row p rows ≡ rows ++ p ∷ []
with_last p [] h = refl
with_last p (r ∷ rs) h = cond-true (ltb r.id.0 p.id.0) _ _ (lt-ltb r.id.0 p.id.0 (All-head (λ x. x.id.0 < p.id.0) r rs h)) ∙ ap (λ (l : List Row). r ∷ l) (with_last p rs (All-tail (λ x. x.id.0 < p.id.0) r rs h))

pub holds_last : (cluster : ℕ → List ℕ) (b : Book) (rows : List Row) (items : List Item) (p : Row) (i : Item) → HoldRows cluster b rows items → HoldsRow cluster b p i → HoldRows cluster b (rows ++ p ∷ []) (items ++ i ∷ [])
holds_last cluster b [] [] p i h last = (last, tt)
holds_last cluster b [] (j ∷ js) p i h last = absurd h
holds_last cluster b (r ∷ rs) [] p i h last = absurd h
holds_last cluster b (r ∷ rs) (j ∷ js) p i h last = (h.0, holds_last cluster b rs js p i h.1 last)

pub times_last : (rows : List Row) (p : Row) (k : ℕ) → times k (clusters_in_rows (rows ++ p ∷ [])) ≡ times k (clusters_in_rows rows) + times k (clusters_in_row p)
times_last [] p k = ap (times k) (clusters_more p []) ∙ times-append k (clusters_in_row p) [] ∙ (let e : times k (clusters_in_row p) + 0 ≡ 0 + times k (clusters_in_row p) = omega arith in e)
times_last (r ∷ rs) p k =
    let m = ap (times k) (clusters_more r (rs ++ p ∷ [])) ∙ times-append k (clusters_in_row r) (clusters_in_rows (rs ++ p ∷ [])) in
    let n = ap (times k) (clusters_more r rs) ∙ times-append k (clusters_in_row r) (clusters_in_rows rs) in
    let h = times_last rs p k in
    omega (arith, m, n, h)

-- an id above all rows has no item
pub no_item : (cluster : ℕ → List ℕ) (b : Book) (rows : List Row) (items : List Item) (id : ItemId) → All (λ r. r.id.0 < id.0) rows → HoldRows cluster b rows items → item_of items id ≡ None
no_item cluster b [] [] id all h = refl
no_item cluster b [] (i ∷ is) id all h = absurd h
no_item cluster b (r ∷ rs) [] id all h = absurd h
no_item cluster b (r ∷ rs) (i ∷ is) id all h =
    let low = All-head (λ (x : Row). x.id.0 < id.0) r rs all in
    cond-false (eqb i.id.0 id.0) (Some i) (item_of is id) (ne_eqb i.id.0 id.0 (λ s. omega (arith, low, ap (λ (n : ItemId). n.0) h.0.means.id, s))) ∙ no_item cluster b rs is id (All-tail (λ (x : Row). x.id.0 < id.0) r rs all) h.1

pub none_before : (items : List Item) (i : Item) (id : ItemId) → item_of (items ++ i ∷ []) id ≡ None → item_of items id ≡ None
none_before [] i id e = refl
none_before (j ∷ js) i id e = by (eqb j.id.0 id.0) e (none_before js i id)
  where
    by : (t : Bool) → cond t (Some j) (item_of (js ++ i ∷ []) id) ≡ None → (item_of (js ++ i ∷ []) id ≡ None → item_of js id ≡ None) → cond t (Some j) (item_of js id) ≡ None
    by true h f = absurd (none-some j (sym h))
    by false h f = f h

-- where nothing is held no block holds a byte

not_held : (n p : ℕ) → is_held (replicate n None) p ≡ false
not_held zero p = refl
not_held (suc n) zero = refl
not_held (suc n) (suc p) = not_held n p

none_pass : (f : ℕ → Bool) (bs : List ℕ) → ((b : ℕ) → f b ≡ false) → filter f bs ≡ []
none_pass f [] h = refl
none_pass f (b ∷ bs) h = cond-false (f b) (b ∷ filter f bs) (filter f bs) (h b) ∙ none_pass f bs h

pub no_blocks_held : (n : ℕ) → blocks_holding (replicate n None) ≡ []
no_blocks_held n = none_pass (block_has_byte (replicate n None)) (counting 0 (blocks_in (length (replicate {A = Option ℕ} n None)))) (λ b. no_block (replicate n None) b (λ p at. not_held n p))

-- what the book keeps of the item of a new row
module _ (s : State) (k : Known) (v : Volume) (p : Row) (i : Item) (at : At s k v) (above : All (λ r. r.id.0 < p.id.0) k.table.rows) (means : Means p i) where
  pub new_noted : (anchor_of v.book i.id ≡ no_usn) × (access_of v.book i.id ≡ 0)
  new_noted = subst (λ (id : ItemId). (anchor_of v.book id ≡ no_usn) × (access_of v.book id ≡ 0)) means.id (at.now.book p.id (no_item (cluster_on s.seen) v.book k.table.rows v.items p.id above at.now.rows))

  -- a row without a byte
  pub fresh_row : (n : ℕ) → IsFresh p → i.held ≡ replicate n None → HoldsRow (cluster_on s.seen) v.book p i
  fresh_row n fresh held = record {
    means = means;
    anchor = fresh.anchor ∙ sym new_noted.0;
    last = fresh.last ∙ sym new_noted.1;
    blocks = ap (map (λ (e : ℕ × ℕ). e.0)) fresh.extents ∙ sym (ap blocks_holding held ∙ no_blocks_held n);
    bytes = subst (λ (es : List (ℕ × ℕ)). HoldAll (cluster_on s.seen) i.held (map extent_of es)) (sym fresh.extents) tt;
  }

-- the volume with one more change, which makes an item whose row has clusters of its own
module _ (s t : State) (k : Known) (v : Volume) (c : Change) (p : Row) (i : Item) (n since : ℕ) (uses : List Use) (next : ItemId) (fair : Fair s) (at : At s k v)
    (above : All (λ r. r.id.0 < p.id.0) k.table.rows) (row : HoldsRow (cluster_on t.seen) v.book p i) (items_are : effect v.items c (next_number v) ≡ v.items ++ i ∷ []) (book_is : book_after c v.book ≡ v.book)
    (moves : Moves n s t k.uses uses) (leaves : Leaves s t (KeepsWhere IsCommitted k.uses s)) (puts : length (puts_into v.items c) ≡ n) (counts : CountsMore k.put_since n since)
    (owned : (j : ℕ) → times j (clusters_in_rows k.table.rows) + times j (clusters_in_row p) ≡ once uses j) (same : (j : ℕ) → 1 ≤ times j (clusters_in_rows k.table.rows) → cluster_on t.seen j ≡ cluster_on s.seen j)
    (next_is : next ≡ (put_change c v).next_item) (fits : FitsTable (put_change c v).items (put_change c v).book)
    (known : (id : ItemId) → row_then id k.rows_then k.next_then (row_of (with_row p k.table.rows) id) ≡ row_then id k.rows_then k.next_then (row_of k.table.rows id)) where
  abbrev pub added_known : Known
  added_known = record k { uses = uses; table = record { rows = with_row p k.table.rows; next = next }; place = k.place + 1; count = k.count + 1; put_since = since }

  rows_are : with_row p k.table.rows ≡ k.table.rows ++ p ∷ []
  rows_are = with_last p k.table.rows above

  all_rows : HoldRows (cluster_on t.seen) v.book (k.table.rows ++ p ∷ []) (v.items ++ i ∷ [])
  all_rows = holds_last (cluster_on t.seen) v.book k.table.rows v.items p i
      (holding_frame (cluster_on s.seen) (cluster_on t.seen) v.book k.table.rows v.items (same_in (cluster_on s.seen) (cluster_on t.seen) (clusters_in_rows k.table.rows) same) at.now.rows) row

  no_more : (id : ItemId) → item_of (effect v.items c (next_number v)) id ≡ None → item_of v.items id ≡ None
  no_more id e = none_before v.items i id (ap (λ (l : List Item). item_of l id) (sym items_are) ∙ e)

  pub added_at : At t added_known (put_change c v)
  added_at = record {
    last = record {
      point = at.last.point;
      earlier = at.last.earlier;
      points_are = at.last.points_are;
      early = let e = length-append v.log ((next_number v, c) ∷ []) in omega (arith, e, at.last.early);
      count = at.last.count;
      clock = at.last.clock;
      image = at.last.image;
      next = at.last.next;
      kept = subst (λ (l : List (Usn × Change)). Kept t k.journal uses v.epoch l at.last.point.book at.last.image) (sym (same_front at.last.point.count v.log (next_number v, c) at.last.early)) still;
      known = record { rows = λ id. at.last.known.rows id ∙ ap (option_map row_value) (sym (known id)); records = at.last.known.records };
    };
    now = record {
      rows = subst (λ (l : List Row). HoldRows (cluster_on t.seen) (book_after c v.book) l (effect v.items c (next_number v))) (sym rows_are)
          (subst (λ (l : List Item). HoldRows (cluster_on t.seen) (book_after c v.book) (k.table.rows ++ p ∷ []) l) (sym items_are)
          (subst (λ (b : Book). HoldRows (cluster_on t.seen) b (k.table.rows ++ p ∷ []) (v.items ++ i ∷ [])) (sym book_is) all_rows));
      owns = λ j. ap (λ (l : List Row). times j (clusters_in_rows l)) rows_are ∙ (let a = times_last k.table.rows p j in let o = owned j in omega (arith, a, o));
      of_log = put_of_log c v at.now.of_log;
      next = next_is;
      count = let e = length-append v.log ((next_number v, c) ∷ []) in omega (arith, e, at.now.count);
      epoch = at.now.epoch;
      place = ap (λ (m : ℕ). m + 1) at.now.place;
      clock = at.now.clock ∙ ap (λ (b : Book). b.clock) (sym book_is);
      records = at.now.records ∙ ap aux_records (sym book_is);
      book = subst (λ (b : Book). IsBookOf (effect v.items c (next_number v)) b) (sym book_is) (λ id e. at.now.book id (no_more id e));
      clusters = at.now.clusters;
      within = omega (arith, at.now.within, moves.long);
      fits = fits;
      used = omega (arith, at.now.used, moves.long, moves.free, puts);
      load = omega (arith, at.now.load, counts.most, puts);
      exact = λ small. let more = counts.exact small in omega (arith, more, at.now.exact (omega (arith, more, small)), puts);
    };
  }
    where
      still : Kept t k.journal uses v.epoch (take at.last.point.count v.log) at.last.point.book at.last.image
      still = kept_staged s t k.journal k.uses v.epoch (take at.last.point.count v.log) at.last.point.book fair at.last.kept uses moves.long moves.committed moves.size moves.same leaves
