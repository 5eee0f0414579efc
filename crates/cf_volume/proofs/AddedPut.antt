-- The row of a new item, put.
use Rattle.std.proofs.Common.{◌≡◌, inl, inr, ℕ, ◌+◌, ◌<◌, ◌≤◌, true, false, ◌&&◌, ◌||◌, eqb, ltb, max, List, length, map, refl, ◌-◌, ◌/◌, sym, ◌∙◌, ap, subst, arith, Option, Some}
use Rattle.std.specs.Prelude.{All}
use Rattle.std.proofs.lemmas.Bool.{cases_eq, cond-false, le-ltb, ne_eqb}
use Rattle.std.proofs.lemmas.Bool.Decides.{nat_tests}
use Rattle.std.proofs.lemmas.List.Elements.{All-nil}
use Rattle.cf_base.specs.declared.changes.Change.{Change}
use Rattle.cf_base.specs.declared.ids.ItemId.{ItemId}
use Rattle.cf_base.specs.declared.ids.Usn.{Usn}
use Rattle.cf_clusters.specs.Area.{KeepsWhere}
use Rattle.cf_clusters.specs.Roles.{IsCommitted}
use Rattle.cf_clusters.specs.declared.uses.Use.{Use}
use Rattle.cf_disk.specs.Disk.{Leaves, State, size_of}
use Rattle.cf_model.specs.Blocks.{puts_into}
use Rattle.cf_model.specs.Changes.{put_change}
use Rattle.cf_model.specs.Items.{Item}
use Rattle.cf_model.specs.Logs.{next_by}
use Rattle.cf_model.specs.Numbers.{above, no_usn, usn_after}
use Rattle.cf_model.specs.State.{Volume}
use Rattle.cf_volume_points.proofs.NewItems.{added_at, fresh_row}
use Rattle.cf_volume_points.proofs.Points.{Fair}
use Rattle.cf_volume_points.proofs.RowChanges.{found_with}
use Rattle.cf_volume_points.proofs.Stages.{moves_none}
use Rattle.cf_volume_points.specs.At.{At}
use Rattle.cf_volume_points.specs.Clusters.{IsGroundSize, clusters_in_row, clusters_in_rows, once, times}
use Rattle.cf_volume_points.specs.Holding.{CountsMore, FitsTable, HoldsRow}
use Rattle.cf_volume_points.specs.Known.{Known, row_then}
use Rattle.cf_volume_points.specs.Staging.{Moves}
use Rattle.cf_volume_points.specs.Standing.{cluster_on}
use Rattle.cf_table.proofs.NextChange.{next_goes_on}
use Rattle.cf_table.specs.Means.{IsFresh, IsLater}
use Rattle.cf_table.specs.Spelling.{HasRoom}
use Rattle.cf_table.specs.Tables.{RisesFrom, Table, row_of, with_row}
use Rattle.cf_table.specs.declared.rows.Row.{Row}
use Rattle.cf_volume_changes.proofs.Puts.{all_with, inside_with, later_next}
use Rattle.cf_volume.proofs.Staged.{same_here}
use Rattle.cf_volume_changes.specs.NewRows.{Arrives, IsMade}
use Rattle.cf_volume_changes.specs.Steady.{Steady}

known_added : (next : ItemId) (rows then' : List Row) (p : Row) → RisesFrom 0 rows → next.0 ≤ p.id.0 → (key : ItemId) → row_then key then' next (row_of (with_row p rows) key) ≡ row_then key then' next (row_of rows key)
known_added next rows then' p rises high key = elim (cases_eq p.id.0 key.0) [
  | inl same ↦
      let past : ltb key.0 next.0 ≡ false = le-ltb key.0 next.0 (omega (arith, same, high)) in
      cond-false (ltb key.0 next.0) _ _ past ∙ sym (cond-false (ltb key.0 next.0) _ _ past)
  | inr apart ↦ ap (λ (o : Option Row). row_then key then' next o) (found_with p 0 rows key rises ∙ cond-false (eqb p.id.0 key.0) (Some p) (row_of rows key) (ne_eqb p.id.0 key.0 apart))
]

none_above_all : (e p : ℕ) → (ltb 0 e || (eqb e 0 && ltb 0 (p + 1 + 1))) ≡ true
none_above_all e p = grind (arith, nat_tests)

module _ (s t : State) (k : Known) (p : Row) (uses : List Use) (since : ℕ) (after : Table) (steady : Steady (size_of s) k) (rises : RisesFrom 0 k.table.rows) (new : All (λ r. r.id.0 < p.id.0) k.table.rows) (next : k.table.next.0 ≤ p.id.0)
    (after_is : after ≡ record { rows = with_row p k.table.rows; next = record { 0 = p.id.0 + 1 } }) where
  abbrev pub after_known : Known
  after_known = record k { uses = uses; table = after; place = k.place + 1; count = k.count + 1; put_since = since }

  pub added_put : (v : Volume) (c : Change) (i : Item) (n : ℕ) → Fair s → At s k v → Arrives c v p i → HoldsRow (cluster_on t.seen) v.book p i → Moves n s t k.uses uses → Leaves s t (KeepsWhere IsCommitted k.uses s) → length (puts_into v.items c) ≡ n → CountsMore k.put_since n since
      → ((j : ℕ) → times j (clusters_in_rows k.table.rows) + times j (clusters_in_row p) ≡ once uses j) → ((j : ℕ) → 1 ≤ times j (clusters_in_rows k.table.rows) → cluster_on t.seen j ≡ cluster_on s.seen j)
      → FitsTable (put_change c v).items (put_change c v).book → At t after_known (put_change c v)
  added_put v c i n fair at arrives row moves leaves puts counts owned same fits =
      let number : p.id.0 + 1 ≡ max v.next_item.0 (next_by c) = omega (arith, ap (λ (x : ItemId). x.0) at.now.next, next, arrives.next) in
      subst (λ (x : Table). At t (record k { uses = uses; table = x; place = k.place + 1; count = k.count + 1; put_since = since }) (put_change c v)) (sym after_is)
      (added_at s t k v c p i n since uses (record { 0 = p.id.0 + 1 }) fair at new row arrives.items arrives.book moves leaves puts counts owned same (λ j. record { 0 = number j }) fits
      (known_added k.next_then k.table.rows k.rows_then p rises (omega (arith, next, steady.earlier))))

  pub added_steady : size_of t ≡ size_of s → length uses ≡ length k.uses → All (λ j. j < length uses) (clusters_in_row p) → HasRoom p → p.number ≡ usn_after k.epoch k.place → p.anchor ≡ no_usn → Steady (size_of t) after_known
  added_steady size long inside room number anchor = subst (λ (x : Table). Steady (size_of t) (record k { uses = uses; table = x; place = k.place + 1; count = k.count + 1; put_since = since })) (sym after_is) (record {
    fit = subst IsGroundSize (sym size) steady.fit;
    clusters = long ∙ steady.clusters ∙ ap (λ (n : ℕ). (n - 3145728) / 4096) (sym size);
    inside = inside_with (λ j. j < length uses) p k.table.rows inside (subst (λ (n : ℕ). All (λ j. j < n) (clusters_in_rows k.table.rows)) (sym long) steady.inside);
    room = all_with HasRoom p k.table.rows room steady.room;
    later = all_with (λ x. IsLater (usn_after k.epoch (k.place + 1)) x) p k.table.rows
        (record { number = ap (λ (u : Usn). above (usn_after k.epoch (k.place + 1)) u) number ∙ later_next k.epoch k.place; anchor = ap (λ (u : Usn). above (usn_after k.epoch (k.place + 1)) u) anchor ∙ none_above_all k.epoch k.place })
        (next_goes_on (usn_after k.epoch k.place) (usn_after k.epoch (k.place + 1)) k.table.rows (later_next k.epoch k.place) steady.later);
    earlier = omega (arith, next, steady.earlier);
    usable = steady.usable;
  })

-- a row without a byte

module _ (s : State) (k : Known) (p : Row) (after : Table) (steady : Steady (size_of s) k) (rises : RisesFrom 0 k.table.rows) (new : All (λ r. r.id.0 < p.id.0) k.table.rows) (next : k.table.next.0 ≤ p.id.0) (fresh : IsFresh p)
    (after_is : after ≡ record { rows = with_row p k.table.rows; next = record { 0 = p.id.0 + 1 } }) where
  pub made_put : (v : Volume) (c : Change) (i : Item) (n : ℕ) → Fair s → At s k v → IsMade c v p i n → FitsTable (put_change c v).items (put_change c v).book → At s (record k { table = after; place = k.place + 1; count = k.count + 1 }) (put_change c v)
  made_put v c i n fair at made fits =
      added_put s s k p k.uses k.put_since after steady rises new next after_is v c i 0 fair at made.arrives (fresh_row s k v p i at new made.arrives.means n fresh made.held)
      (moves_none s k.uses) (record { later = omega arith; now = λ d left. (d, left, same_here IsCommitted k.uses d); since = λ t d le left. inl left }) (ap length made.puts) (record { most = omega arith; exact = λ small. omega arith })
      (λ j. let none : times j (clusters_in_row p) ≡ 0 = ap (λ (es : List (ℕ × ℕ)). times j (map (λ (e : ℕ × ℕ). e.1) es)) fresh.extents in let owns = at.now.owns j in omega (arith, none, owns)) (λ j some. refl) fits

  pub made_steady : HasRoom p → p.number ≡ usn_after k.epoch k.place → Steady (size_of s) (record k { table = after; place = k.place + 1; count = k.count + 1 })
  made_steady room number = added_steady s s k p k.uses k.put_since after steady rises new next after_is refl refl
      (subst (λ (es : List (ℕ × ℕ)). All (λ j. j < length k.uses) (clusters_in_row (record p { extents = es }))) (sym fresh.extents) (All-nil (λ j. j < length k.uses))) room number fresh.anchor
