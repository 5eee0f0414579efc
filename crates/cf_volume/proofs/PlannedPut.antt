-- A planned change of an item that stays, put.
use Rattle.std.proofs.Common.{◌≡◌, ℕ, ◌+◌, ◌-◌, ◌/◌, ◌<◌, ◌≤◌, true, List, length, sym, ◌∙◌, ap, subst, arith, Some, None}
use Rattle.std.specs.Prelude.{All, filter, not}
use Rattle.std.proofs.lemmas.Option.{none-some}
use Rattle.cf_base.specs.declared.changes.Change.{Change}
use Rattle.cf_base.specs.declared.ids.ItemId.{ItemId}
use Rattle.cf_base.specs.declared.ids.Usn.{Usn}
use Rattle.cf_clusters.specs.Area.{place}
use Rattle.cf_clusters.specs.declared.uses.Use.{Use}
use Rattle.cf_disk.specs.Disk.{State, size_of}
use Rattle.cf_model.specs.Changes.{next_number, put_change}
use Rattle.cf_model.specs.Numbers.{usn_after}
use Rattle.cf_model.specs.State.{Volume}
use Rattle.cf_volume_points.proofs.Droppings.{drops_inside}
use Rattle.cf_volume_points.proofs.Points.{Fair}
use Rattle.cf_volume_points.specs.At.{At}
use Rattle.cf_volume_points.specs.Holding.{CountsMore, FitsTable}
use Rattle.cf_volume_points.proofs.ItemChanges.{row_holds}
use Rattle.cf_volume_points.specs.Clusters.{IsGroundSize, clusters_in_row, clusters_in_rows}
use Rattle.cf_volume_points.specs.Standing.{cluster_on}
use Rattle.cf_volume_points.specs.Known.{Known, row_then}
use Rattle.cf_ranges.specs.Pairs.{cluster_at}
use Rattle.cf_ranges.specs.Positions.{touches}
use Rattle.cf_table.specs.Applied.{item_effect}
use Rattle.cf_table.specs.Means.{Means}
use Rattle.cf_table.specs.Changing.{item_of_change, pin_for, stays}
use Rattle.cf_table.specs.Spelling.{HasRoom}
use Rattle.cf_table.specs.Tables.{AreTableRows, RisesFrom, Table, row_of}
use Rattle.cf_table.specs.declared.rows.Row.{Row}
use Rattle.cf_volume.proofs.Carried.{carried_at}
use Rattle.cf_volume_changes.proofs.Noted.{found_id}
use Rattle.cf_volume_changes.proofs.Puts.{all_with, found_inside, found_table, inside_named, inside_with, known_with, named_inside, next_with, puts_rise, some_row}
use Rattle.cf_volume_changes.specs.Laid.{AreRising, Carries, Plans, may_be_gone}
use Rattle.cf_volume_changes.specs.Notes.{Notes}
use Rattle.cf_volume_changes.specs.Steady.{Steady}

pub room_for : (size : ℕ) (k : Known) → Steady size k → place (length k.uses) ≤ size
room_for size k steady = omega (arith, steady.fit, steady.clusters)

module _ (s t : State) (k : Known) (c : Change) (planned : Row) (blocks : List ℕ) (uses : List Use) (after : Table) (then' : List Row)
    (steady : Steady (size_of s) k) (rises : RisesFrom 0 k.table.rows) (table : AreTableRows k.table.rows)
    (plan : (r : Row) → row_of k.table.rows (item_of_change c) ≡ Some r → Plans c (pin_for c k.table.rows) (usn_after k.epoch k.place) r planned blocks) where
  pub planned_inside : (row_of k.table.rows (item_of_change c) ≡ None → ⊥) → (b n : ℕ) → cluster_at planned.extents b ≡ Some n → n < length k.uses
  planned_inside present b n e =
      let here = some_row (row_of k.table.rows (item_of_change c)) present in
      named_inside (λ j. j < length k.uses) planned.extents b n
      (subst (λ (es : List (ℕ × ℕ)). All (λ j. j < length k.uses) (clusters_in_row (record here.0 { extents = es }))) (sym (plan here.0 here.1).rest.extents)
      (found_inside (λ j. j < length k.uses) k.table.rows (item_of_change c) here.0 steady.inside here.1)) e

  module _ (carries : Carries c (item_of_change c) planned blocks s t k.uses uses k.table after) (notes : Notes (item_of_change c) k.next_then k.table.rows k.rows_then then') (count : ℕ) where
    abbrev row : Row
    row = carries.row

    facts : Plans c (pin_for c k.table.rows) (usn_after k.epoch k.place) row planned blocks
    facts = plan row carries.found

    present : row_of k.table.rows (item_of_change c) ≡ None → ⊥
    present e = none-some row (sym e ∙ carries.found)

    abbrev after_row : Row
    after_row = record planned { extents = carries.extents }

    id_is : after_row.id.0 ≡ (item_of_change c).0
    id_is = ap (λ (n : ItemId). n.0) facts.rest.id ∙ found_id k.table.rows (item_of_change c) row carries.found

    long : length uses ≡ length k.uses
    long = carries.settles.drops.long ∙ carries.settles.all.moves.long

    extents_inside : All (λ j. j < length uses) (clusters_in_row after_row)
    extents_inside = inside_named (λ j. j < length uses) 0 carries.extents carries.settles.drops.rising
        (drops_inside (filter (λ b. not (touches planned.here b)) (may_be_gone c blocks carries.settles.between)) carries.settles.mid uses carries.settles.between carries.extents carries.settles.all.inside carries.settles.drops)

    pub planned_steady : Steady (size_of t) (record k { uses = uses; table = after; place = k.place + 1; count = k.count + 1; rows_then = then'; put_since = count })
    planned_steady = subst (λ (x : Table). Steady (size_of t) (record k { uses = uses; table = x; place = k.place + 1; count = k.count + 1; rows_then = then'; put_since = count })) (sym carries.table) (record {
      fit = subst IsGroundSize (sym carries.settles.all.moves.size) steady.fit;
      clusters = long ∙ steady.clusters ∙ ap (λ (n : ℕ). (n - 3145728) / 4096) (sym carries.settles.all.moves.size);
      inside = inside_with (λ j. j < length uses) after_row k.table.rows extents_inside (subst (λ (n : ℕ). All (λ j. j < n) (clusters_in_rows k.table.rows)) (sym long) steady.inside);
      room = all_with HasRoom after_row k.table.rows carries.room steady.room;
      later = next_with k.epoch k.place k.table.rows (item_of_change c) row after_row steady.later carries.found facts.later facts.rest.anchor;
      earlier = steady.earlier;
      usable = steady.usable;
    })

    pub planned_at : (v : Volume) → Fair s → At s k v → stays c ≡ true → FitsTable (put_change c v).items (put_change c v).book
        → CountsMore k.put_since (length blocks) count → At t (record k { uses = uses; table = after; place = k.place + 1; count = k.count + 1; rows_then = then'; put_since = count }) (put_change c v)
    planned_at v fair at kind fits counts =
        let number : usn_after k.epoch k.place ≡ next_number v = (λ i. usn_after (at.now.epoch i) (at.now.place i)) in
        let here = row_holds (cluster_on s.seen) v.book k.table.rows v.items (item_of_change c) row at.now.rows carries.found in
        carried_at s t k v c planned uses blocks count after then' fair at rises kind carries (found_table k.table.rows (item_of_change c) row table carries.found).stored.extents
        (λ i m. subst (λ (n : Usn). Means planned (item_effect c (pin_for c k.table.rows) n i)) number (facts.means i m)) facts.rest facts.stored.here facts.puts counts
        (subst (λ (l : List ℕ). AreRising 0 l) (sym (facts.puts here.0 here.2.means)) (puts_rise c here.0.held)) fits
        (λ id. ap (λ (x : Table). row_then id then' k.next_then (row_of x.rows id)) carries.table ∙ known_with (item_of_change c) k.next_then k.table.rows k.rows_then then' after_row rises id_is present notes id)
