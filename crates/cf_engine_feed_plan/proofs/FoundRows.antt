-- Rows that are found and the items that they mean.
use Rattle.std.proofs.Common.{◌≡◌, List, refl, Some, None, Option, subst, ap, ◌∙◌}
use Rattle.cf_base.specs.declared.ids.ItemId.{ItemId}
use Rattle.cf_model.specs.Items.{Item, item_of}
use Rattle.cf_table.specs.Means.{Means}
use Rattle.cf_table.specs.Tables.{MeansAll, row_of}
use Rattle.cf_table.specs.declared.rows.Row.{Row}
use Rattle.cf_engine_feed_plan.specs.Premises.{FoundAs, IsHere}
use Rattle.cf_tree.proofs.Alike.{BothMean, rows_by_id}

pub record IsMeant (r : Row) (o : Option Item) : Type 0 where
  pub item : Item
  pub is : o ≡ Some item
  pub means : Means r item

pub found_some : (r : Row) (o : Option Item) → FoundAs (Some r) o → IsMeant r o
found_some r None h = absurd h
found_some r (Some i) h = record { item = i; is = refl; means = h }

pub found_none : (o : Option Item) → FoundAs None o → o ≡ None
found_none None h = refl
found_none (Some i) h = absurd h

as_found : (q : Option Row) (o : Option Item) → BothMean q o → FoundAs q o
as_found None None h = h
as_found None (Some i) h = h
as_found (Some r) None h = h
as_found (Some r) (Some i) h = h

pub found_by_id : (rows : List Row) (items : List Item) (id : ItemId) → MeansAll rows items → FoundAs (row_of rows id) (item_of items id)
found_by_id rows items id m = as_found (row_of rows id) (item_of items id) (rows_by_id rows items id m)

-- the row of an item that is here, and of none
pub here_some : (rows : List Row) (items : List Item) (id : ItemId) (o : Option Item) → MeansAll rows items → IsHere items (Some id) o → FoundAs (row_of rows id) o
here_some rows items id None m h = let z : ◌≡◌ {A = Option ItemId} (Some id) None = h.is in absurd cc
here_some rows items id (Some i) m h =
    let same : id ≡ i.id = own id i.id h.is in
    subst (λ v. FoundAs (row_of rows id) v) (ap (λ (x : ItemId). item_of items x) same ∙ h.there i refl) (found_by_id rows items id m) where
      own : (a b : ItemId) → ◌≡◌ {A = Option ItemId} (Some a) (Some b) → a ≡ b
      own a b e = cc

pub here_none : (items : List Item) (o : Option Item) → IsHere items None o → FoundAs None o
here_none items None h = tt
here_none items (Some i) h = let z : ◌≡◌ {A = Option ItemId} None (Some i.id) = h.is in absurd cc
