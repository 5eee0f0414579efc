-- A planned change of an item that stays, carried out, is one more change of the volume.
use Rattle.std.proofs.Common.{◌≡◌, ℕ, ◌+◌, true, List, [], length, sym, ◌∙◌, ap, subst, Some}
use Rattle.cf_base.specs.declared.changes.Change.{Change}
use Rattle.cf_base.specs.declared.ids.ItemId.{ItemId}
use Rattle.cf_volume_blocks.specs.Bytes.{puts_in}
use Rattle.cf_clusters.specs.declared.uses.Use.{Use}
use Rattle.cf_disk.specs.Disk.{State}
use Rattle.cf_model.specs.Changes.{next_number, put_change}
use Rattle.cf_model.specs.Items.{Item, item_of}
use Rattle.cf_model.specs.State.{Volume}
use Rattle.cf_volume_points.proofs.ItemChanges.{changed_at, row_holds}
use Rattle.cf_volume_points.proofs.Points.{Fair}
use Rattle.cf_volume_points.specs.At.{At}
use Rattle.cf_volume_points.specs.Holding.{CountsMore, FitsTable, HoldsRow}
use Rattle.cf_volume_points.specs.Staging.{AreBlocks, DropsGone}
use Rattle.cf_volume_points.specs.Standing.{cluster_on}
use Rattle.cf_volume_points.specs.Known.{Known, row_then}
use Rattle.cf_ranges.specs.Pairs.{IsRising, cluster_at}
use Rattle.cf_ranges.specs.Positions.{IsRuns}
use Rattle.cf_table.specs.Applied.{item_effect}
use Rattle.cf_table.specs.Changing.{item_of_change, pin_for, stays}
use Rattle.cf_table.specs.Means.{KeepsRest, Means}
use Rattle.cf_table.specs.Tables.{RisesFrom, Table, row_of, with_row}
use Rattle.cf_table.specs.declared.rows.Row.{Row}
use Rattle.cf_volume.proofs.KeptBytes.{all_gone}
use Rattle.cf_volume_changes.specs.Laid.{AreRising, Carries}

-- extents say nothing of the item
pub with_extents : (r : Row) (es : List (ℕ × ℕ)) (i : Item) → Means r i → Means (record r { extents = es }) i
with_extents r es i h = record {
  id = h.id;
  parent = h.parent;
  name = h.name;
  directory = h.directory;
  placeholder = h.placeholder;
  populated = h.populated;
  in_sync = h.in_sync;
  keep = h.keep;
  pin = h.pin;
  base = h.base;
  number = h.number;
  identity = h.identity;
  bytes = record { size = h.bytes.size; even = h.bytes.even; numbers = h.bytes.numbers; dirty = h.bytes.dirty; dirty_since = h.bytes.dirty_since; here = h.bytes.here; valid = h.bytes.valid; modified = h.bytes.modified; modified_since = h.bytes.modified_since };
}

module _ (s t : State) (k : Known) (v : Volume) (c : Change) (planned : Row) (uses : List Use) (blocks : List ℕ) (since : ℕ) (after : Table) (then' : List Row) (fair : Fair s) (at : At s k v) (rises : RisesFrom 0 k.table.rows) (kind : stays c ≡ true)
    (carries : Carries c (item_of_change c) planned blocks s t k.uses uses k.table after)
    (rising : IsRising carries.row.extents)
    (means : (i : Item) → Means carries.row i → Means planned (item_effect c (pin_for c k.table.rows) (next_number v) i)) (rest : KeepsRest carries.row planned) (runs : IsRuns planned.here)
    (puts_are : (i : Item) → Means carries.row i → blocks ≡ puts_in c i.held) (counts : CountsMore k.put_since (length blocks) since) (in_order : AreRising 0 blocks) (fits : FitsTable (put_change c v).items (put_change c v).book)
    (known : (id : ItemId) → row_then id then' k.next_then (row_of after.rows id) ≡ row_then id k.rows_then k.next_then (row_of k.table.rows id)) where
  abbrev after_row : Row
  after_row = record planned { extents = carries.extents }

  same_rows : after.rows ≡ with_row after_row k.table.rows
  same_rows = ap (λ (x : Table). x.rows) carries.table

  means_after : (i : Item) → Means carries.row i → Means after_row (item_effect c (pin_for c k.table.rows) (next_number v) i)
  means_after i m = with_extents planned carries.extents (item_effect c (pin_for c k.table.rows) (next_number v) i) (means i m)

  here : (i : Item) × (item_of v.items (item_of_change c) ≡ Some i) × HoldsRow (cluster_on s.seen) v.book carries.row i
  here = row_holds (cluster_on s.seen) v.book k.table.rows v.items (item_of_change c) carries.row at.now.rows carries.found

  gone : DropsGone planned.here carries.settles.mid uses carries.settles.between carries.extents
  gone = all_gone c here.0 (pin_for c k.table.rows) (next_number v) carries.row planned blocks carries.settles.mid uses carries.settles.between carries.extents here.2.blocks runs (means here.0 here.2.means)
      (λ b out. carries.settles.all.others b out ∙ ap (λ (es : List (ℕ × ℕ)). cluster_at es b) rest.extents) carries.settles.drops

  pub carried_at : At t (record k { uses = uses; table = after; place = k.place + 1; count = k.count + 1; rows_then = then'; put_since = since }) (put_change c v)
  carried_at = subst (λ (x : Table). At t (record k { uses = uses; table = x; place = k.place + 1; count = k.count + 1; rows_then = then'; put_since = since }) (put_change c v)) (sym carries.table)
      (changed_at s t k v c carries.row after_row carries.settles.mid uses blocks since carries.settles.between then' fair at rises rising kind carries.found means_after rest.id rest.anchor rest.last runs puts_are counts
      carries.settles.all.moves carries.settles.all.leaves
      (λ r was i m start. carries.settles.all.each r was i (pin_for c k.table.rows) (next_number v) m in_order (subst (λ (es : List (ℕ × ℕ)). AreBlocks r was i.held (item_effect c (pin_for c k.table.rows) (next_number v) i).held [] k.uses es (cluster_on s.seen)) (sym rest.extents) start))
      gone fits
      (λ id. ap (λ (l : List Row). row_then id then' k.next_then (row_of l id)) (sym same_rows) ∙ known id))
