-- What the row of an item tells of it.
use Rattle.std.proofs.Common.{◌≡◌, Some, None, sym, ◌∙◌, ap}
use Rattle.std.specs.Prelude.{◌==◌}
use Rattle.cf_base.specs.declared.ids.ItemId.{ItemId}
use Rattle.cf_base.specs.declared.policies.Policy.{Policy}
use Rattle.cf_disk.specs.Disk.{State}
use Rattle.cf_filter_desk.specs.Desks.{Desk}
use Rattle.cf_filter_machine.specs.Held.{Held}
use Rattle.cf_filter_machine.specs.Sensing.{Stands, sense}
use Rattle.cf_model.specs.Items.{Item, item_of}
use Rattle.cf_model.specs.Missing.{is_met, view_of}
use Rattle.cf_model.specs.Requests.{Waiting, wait_after}
use Rattle.cf_model.specs.Settling.{no_view, view_at}
use Rattle.cf_model.specs.State.{Filter}
use Rattle.cf_model.specs.Waits.{Need, is_met_now}
use Rattle.cf_model.specs.Words.{part}
use Rattle.cf_volume_points.proofs.KeptSound.{means_all}
use Rattle.cf_volume_points.specs.Standing.{cluster_on}
use Rattle.cf_filter_steps.proofs.RowReads.{row_gone, row_there}
use Rattle.cf_filter_steps.proofs.LookUps.{of_found}
use Rattle.cf_filter_steps.specs.Answering.{Any, Reads}
use Rattle.cf_filter_steps.specs.Good.{IsSmall}
use Rattle.cf_table.specs.Means.{Means}
use Rattle.cf_table.specs.Tables.{MeansAll, row_of}
use Rattle.cf_table.specs.declared.rows.Row.{Row}
use Rattle.std.specs.Prelude.{Bool}

module _ {D : Type 0} (state : D → State) (x : Held D) (s : Filter) (h : Stands state x s) (id : ItemId) where
  rows_mean : MeansAll x.known.table.rows s.volume.items
  rows_mean = means_all (cluster_on (state x.disk).seen) s.volume.book x.known.table.rows s.volume.items h.volume.now.rows

  pub seen_there : (row : Row) → row_of x.known.table.rows id ≡ Some row → (i : Item) × (item_of s.volume.items id ≡ Some i) × Means row i × IsSmall i
  seen_there row e =
      let b = row_there x.known.table.rows s.volume.items id row rows_mean e in
      (b.0, b.1, b.2, of_found IsSmall (λ j. j.id.0 == id.0) s.volume.items b.0 h.good.volume.small b.1)

  pub seen_gone : row_of x.known.table.rows id ≡ None → item_of s.volume.items id ≡ None
  seen_gone e = row_gone x.known.table.rows s.volume.items id rows_mean e

  -- the view of it

  pub view_there : (row : Row) → row_of x.known.table.rows id ≡ Some row → (i : Item) × Means row i × IsSmall i × (view_of x.desk.policy i ≡ view_at s id)
  view_there row e =
      let b = seen_there row e in
      (b.0, b.2, b.3, ap (λ (d : Desk). view_of d.policy b.0) h.desk ∙ ap (part (view_of s.policy) no_view) (sym b.1))

  pub view_gone : row_of x.known.table.rows id ≡ None → no_view ≡ view_at s id
  view_gone e = ap (part (view_of s.policy) no_view) (sym (seen_gone e))

pub met_there : {D : Type 0} (state : D → State) (x : Held D) (n : Need) (row : Row) (w : Waiting) (p : Policy) (met : Bool) → row_of x.known.table.rows n.item ≡ Some row → w ≡ x.desk.waiting → p ≡ x.desk.policy
    → ((i : Item) → Means row i → IsSmall i → met ≡ is_met (view_of p i) (wait_after w 0 n.kind n.item n.handle n.span)) → Reads (sense state) Any (is_met_now n) x met
met_there state x n row w p met there waits policy e = record {
  is = λ s h q.
      let v = view_there state x s h n.item row there in
      e v.0 v.1 v.2 ∙ (λ j. is_met (view_of (policy j) v.0) (wait_after (waits j) 0 n.kind n.item n.handle n.span)) ∙ (λ j. is_met (v.3 j) (wait_after (h.desk j).waiting 0 n.kind n.item n.handle n.span));
}

pub met_gone : {D : Type 0} (state : D → State) (x : Held D) (n : Need) (w : Waiting) (met : Bool) → row_of x.known.table.rows n.item ≡ None → w ≡ x.desk.waiting
    → met ≡ is_met no_view (wait_after w 0 n.kind n.item n.handle n.span) → Reads (sense state) Any (is_met_now n) x met
met_gone state x n w met gone waits e = record {
  is = λ s h q. e ∙ (λ j. is_met no_view (wait_after (waits j) 0 n.kind n.item n.handle n.span)) ∙ (λ j. is_met (view_gone state x s h n.item gone j) (wait_after (h.desk j).waiting 0 n.kind n.item n.handle n.span));
}
