-- The row of a copy, put with clusters of its own.
use Rattle.std.proofs.Common.{◌≡◌, ℕ, ◌+◌, ◌/◌, ◌<◌, ◌≤◌, Bool, true, false, cond, List, [], length, refl, sym, ◌∙◌, ap, subst, arith, Option, Some, None}
use Rattle.std.specs.Prelude.{All}
use Rattle.std.proofs.lemmas.Bool.{true≢false}
use Rattle.std.proofs.lemmas.List.{length-map}
use Rattle.cf_base.specs.declared.changes.Change.{Change}
use Rattle.cf_base.specs.declared.ids.ItemId.{ItemId}
use Rattle.cf_volume_blocks.proofs.Elsewhere.{among_holding, block_holds}
use Rattle.cf_volume_blocks.proofs.Laid.{is_here}
use Rattle.cf_volume_blocks.specs.Bytes.{HoldsBlock, holds_at, is_among}
use Rattle.cf_clusters.specs.declared.uses.Use.{Use}
use Rattle.cf_disk.specs.Disk.{State, size_of}
use Rattle.cf_model.specs.Blocks.{block_has_byte, blocks_holding, puts_into}
use Rattle.cf_model.specs.Books.{access_of, anchor_of}
use Rattle.cf_model.specs.Changes.{put_change}
use Rattle.cf_model.specs.Items.{Item, item_of}
use Rattle.cf_model.specs.Numbers.{no_usn, usn_after}
use Rattle.cf_model.specs.State.{Volume}
use Rattle.cf_model.specs.Words.{part}
use Rattle.cf_volume_points.proofs.Extents.{named_once}
use Rattle.cf_volume_points.proofs.FileRows.{final_blocks, final_bytes, hold_at}
use Rattle.cf_volume_points.proofs.ItemChanges.{row_holds}
use Rattle.cf_volume_points.proofs.NewItems.{new_noted}
use Rattle.cf_volume_points.proofs.Points.{Fair}
use Rattle.cf_volume_points.proofs.RowChanges.{named_by, times_split}
use Rattle.cf_volume_points.specs.At.{At}
use Rattle.cf_volume_points.specs.Clusters.{clusters_in_row, clusters_in_rows, times}
use Rattle.cf_volume_points.specs.Holding.{CountsMore, FitsTable, HoldsRow}
use Rattle.cf_volume_points.specs.Known.{Known}
use Rattle.cf_volume_points.specs.Staging.{AreBlocks}
use Rattle.cf_volume_points.specs.Standing.{cluster_on}
use Rattle.cf_ranges.specs.Pairs.{cluster_at}
use Rattle.cf_table.specs.Means.{IsFresh}
use Rattle.cf_table.specs.Tables.{AreTableRows, RisesFrom, Table, row_of, with_row}
use Rattle.cf_table.specs.declared.rows.Row.{Row}
use Rattle.cf_volume.proofs.AddedPut.{added_put, added_steady}
use Rattle.cf_volume.proofs.Carried.{with_extents}
use Rattle.cf_volume_changes.proofs.Puts.{found_table, inside_named}
use Rattle.cf_volume.specs.Copies.{AreSources, Duplicates, blocks_of}
use Rattle.cf_volume_changes.specs.NewRows.{Arrives, IsCopied}
use Rattle.cf_volume_changes.specs.Steady.{Steady}

-- a copy puts as many blocks as its source has clusters
pub copy_puts : (s : State) (k : Known) (v : Volume) (c : Change) (p source : Row) (i : Item) (from : ItemId) → At s k v → row_of k.table.rows from ≡ Some source → IsCopied c v p i from → length (puts_into v.items c) ≡ length source.extents
copy_puts s k v c p source i from at found copy =
    let old = row_holds (cluster_on s.seen) v.book k.table.rows v.items from source at.now.rows found in
    ap length (copy.puts ∙ ap (λ (o : Option Item). blocks_holding (part (λ (x : Item). x.held) [] o)) old.1 ∙ sym old.2.blocks) ∙ length-map source.extents (λ (e : ℕ × ℕ). e.0)

module _ (s t : State) (k : Known) (p : Row) (from : ItemId) (uses : List Use) (mid after : Table) (steady : Steady (size_of s) k) (rises : RisesFrom 0 k.table.rows) (stored : AreTableRows k.table.rows)
    (new : All (λ r. r.id.0 < p.id.0) k.table.rows) (next : k.table.next.0 ≤ p.id.0) (fresh : IsFresh p) (copied : Duplicates from p s t k.uses uses k.table mid) (after_is : after ≡ record mid { next = record { 0 = p.id.0 + 1 } }) (count : ℕ) where
  abbrev pub copied_known : Known
  copied_known = record k { uses = uses; table = after; place = k.place + 1; count = k.count + 1; put_since = count }

  abbrev es : List (ℕ × ℕ)
  es = copied.extents

  abbrev row : Row
  row = record p { extents = es }

  abbrev source : List (ℕ × ℕ)
  source = copied.source.extents

  table_is : after ≡ record { rows = with_row row k.table.rows; next = record { 0 = p.id.0 + 1 } }
  table_is = after_is ∙ ap (λ (x : Table). record x { next = record { 0 = p.id.0 + 1 } }) copied.table

  pub copied_steady : p.number ≡ usn_after k.epoch k.place → Steady (size_of t) copied_known
  copied_steady number = added_steady s t k row uses count after steady rises new next table_is copied.all.moves.size copied.all.moves.long (inside_named (λ j. j < length uses) 0 es copied.all.rising copied.all.inside) copied.room number fresh.anchor

  -- how often rows name a cluster
  abbrev rest : ℕ → ℕ
  rest j = times j (clusters_in_rows k.table.rows)

  module _ (v : Volume) (c : Change) (i : Item) (at : At s k v) (copy : IsCopied c v p i from) where
    old : (j : Item) × (item_of v.items from ≡ Some j) × HoldsRow (cluster_on s.seen) v.book copied.source j
    old = row_holds (cluster_on s.seen) v.book k.table.rows v.items from copied.source at.now.rows copied.found

    held_is : i.held ≡ old.0.held
    held_is = copy.held ∙ ap (part (λ (x : Item). x.held) []) old.1

    blocks_are : blocks_of source ≡ blocks_holding i.held
    blocks_are = old.2.blocks ∙ sym (ap blocks_holding held_is)

    sources : AreSources rest i.held source s.seen
    sources b j e =
        let split = times_split from 0 k.table.rows j rises in
        let mine : named_by (row_of k.table.rows from) j ≡ times j (clusters_in_row copied.source) = ap (λ (o : Option Row). named_by o j) copied.found in
        let some = named_once source b j e in (
          omega (arith, split, mine, some),
          subst (λ (l : List (Option ℕ)). HoldsBlock l b (cluster_on s.seen j)) (sym held_is) (hold_at (cluster_on s.seen) old.0.held source b j old.2.bytes e),
        )

    start : AreBlocks rest (cluster_on s.seen) [] i.held [] k.uses [] (cluster_on s.seen)
    start = record {
      rising = tt;
      owns = λ j. let o = at.now.owns j in omega (arith, o);
      others = λ j some. refl;
      laid = λ b j e among. absurd (true≢false (sym among));
      kept = λ b j e out q w low h. absurd (true≢false (sym h));
      has = λ b among none. true≢false (sym among);
      none = λ b out none q w low h. true≢false (sym h);
    }

    blocks : AreBlocks rest (cluster_on s.seen) [] i.held (blocks_of source) uses es (cluster_on t.seen)
    blocks = copied.all.each rest i.held (found_table k.table.rows from copied.source stored copied.found).stored.extents sources start

    among_is : (b : ℕ) → is_among (blocks_of source) b ≡ block_has_byte i.held b
    among_is b = ap (λ (l : List ℕ). is_among l b) blocks_are ∙ among_holding i.held b

    gone : (b : ℕ) → cluster_at es b ≡ cond (block_has_byte i.held b) (cluster_at es b) None
    gone b = by (block_has_byte i.held b) refl
      where
        by : (u : Bool) → block_has_byte i.held b ≡ u → cluster_at es b ≡ cond u (cluster_at es b) None
        by true e = refl
        by false e = copied.all.only b (among_is b ∙ e)

    outside : (q w : ℕ) → is_among (blocks_of source) (q / 4096) ≡ false → holds_at i.held q w ≡ true → holds_at [] q w ≡ true
    outside q w out h = absurd (true≢false (sym (block_holds i.held (q / 4096) q refl (is_here i.held q w h)) ∙ sym (among_is (q / 4096)) ∙ out))

    row_is : HoldsRow (cluster_on t.seen) v.book row i
    row_is = record {
      means = with_extents p es i copy.arrives.means;
      anchor = fresh.anchor ∙ sym noted.0;
      last = fresh.last ∙ sym noted.1;
      blocks = final_blocks rest (cluster_on s.seen) [] i.held (blocks_of source) uses es es (cluster_on t.seen) (block_has_byte i.held) blocks gone (λ b. refl) blocks.rising outside;
      bytes = final_bytes rest (cluster_on s.seen) [] i.held (blocks_of source) uses es es (cluster_on t.seen) (block_has_byte i.held) blocks gone (λ b. refl) blocks.rising outside;
    }
      where
        noted : (anchor_of v.book i.id ≡ no_usn) × (access_of v.book i.id ≡ 0)
        noted = new_noted s k v p i at new copy.arrives.means

    puts : length (puts_into v.items c) ≡ length source
    puts = copy_puts s k v c p copied.source i from at copied.found copy

    pub copied_put : Fair s → FitsTable (put_change c v).items (put_change c v).book → CountsMore k.put_since (length source) count → At t copied_known (put_change c v)
    copied_put fair fits counts =
        added_put s t k row uses count after steady rises new next table_is v c i (length source) fair at arrives row_is copied.all.moves copied.all.leaves puts counts (λ j. blocks.owns j) (λ j some. blocks.others j some) fits
      where
        arrives : Arrives c v row i
        arrives = let h = copy.arrives in record { means = with_extents p es i h.means; items = h.items; book = h.book; next = h.next; longer = h.longer; id = h.id }
