-- What is read of a row is read of its item, with a value for none.
use Rattle.std.proofs.Common.{◌≡◌, List, Option, Some, None, refl, sym, ◌∙◌, ap, subst}
use Rattle.cf_base.specs.declared.ids.ItemId.{ItemId}
use Rattle.cf_model.specs.Items.{Item, item_of}
use Rattle.cf_model.specs.Words.{part}
use Rattle.cf_filter_steps.specs.Answering.{Any, Reads, Sense}
use Rattle.cf_filter_steps.specs.Finding.{HasRows}
use Rattle.cf_table.specs.Means.{Means}
use Rattle.cf_table.specs.Tables.{MeansAll, Table, row_of}
use Rattle.cf_table.specs.declared.rows.Row.{Row}
use Rattle.cf_tree.proofs.Alike.{BothMean, rows_by_id}

both_item : (r : Row) (o : Option Item) → BothMean (Some r) o → (i : Item) × (o ≡ Some i) × Means r i
both_item r None h = absurd h
both_item r (Some i) h = (i, refl, h)

no_item : (o : Option Item) → BothMean None o → o ≡ None
no_item None h = refl
no_item (Some i) h = absurd h

pub both_read : {V : Type 0} (f : Row → V) (g : Item → V) (none : V) → ((r : Row) (i : Item) → Means r i → f r ≡ g i) → (o : Option Row) (q : Option Item) → BothMean o q → part f none o ≡ part g none q
both_read f g none same None None h = refl
both_read f g none same None (Some i) h = absurd h
both_read f g none same (Some r) None h = absurd h
both_read f g none same (Some r) (Some i) h = same r i h

-- the item of a row, and that there is none
pub row_there : (rows : List Row) (items : List Item) (id : ItemId) (row : Row) → MeansAll rows items → row_of rows id ≡ Some row → (i : Item) × (item_of items id ≡ Some i) × Means row i
row_there rows items id row m e = both_item row (item_of items id) (subst (λ (o : Option Row). BothMean o (item_of items id)) e (rows_by_id rows items id m))

pub row_gone : (rows : List Row) (items : List Item) (id : ItemId) → MeansAll rows items → row_of rows id ≡ None → item_of items id ≡ None
row_gone rows items id m e = no_item (item_of items id) (subst (λ (o : Option Row). BothMean o (item_of items id)) e (rows_by_id rows items id m))

-- what is read of the row with this id, or the value for none, is read of the item
pub row_read : {X V : Type 0} (S : Sense X) (x : X) (t : Table) (id : ItemId) → HasRows S x t → (f : Row → V) (g : Item → V) (none : V) → ((r : Row) (i : Item) → Means r i → f r ≡ g i)
    → (o : Option Row) (v : V) → row_of t.rows id ≡ o → v ≡ part f none o → Reads S Any (λ s. part g none (item_of s.volume.items id)) x v
row_read S x t id rows f g none same o v e is = record {
  is = λ s h p.
      is ∙ ap (λ (q : Option Row). part f none q) (sym e) ∙ both_read f g none same (row_of t.rows id) (item_of s.volume.items id) (rows_by_id t.rows s.volume.items id (rows.rows s h));
}
