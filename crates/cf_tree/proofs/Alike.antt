-- What is found among rows is found among the items that they mean.
use Rattle.std.proofs.Common.{◌≡◌, ℕ, Bool, true, false, cond, List, [], ◌∷◌, ap, eqb, Some, None, Option}
use Rattle.std.specs.Prelude.{find, ◌&&◌}
use Rattle.cf_base.specs.declared.ids.ItemId.{ItemId}
use Rattle.cf_model.specs.Items.{Item, item_of}
use Rattle.cf_model.specs.LookUp.{child_of, is_child_named}
use Rattle.cf_model.specs.Words.{same}
use Rattle.cf_table.specs.Means.{Means}
use Rattle.cf_table.specs.Tables.{MeansAll, is_child_row, row_of}
use Rattle.cf_table.specs.declared.rows.Row.{Row}

-- a row and the item that it means, or neither
abbrev pub BothMean : Option Row → Option Item → Type 0
BothMean None None = Unit {0}
BothMean None (Some i) = ⊥
BothMean (Some r) None = ⊥
BothMean (Some r) (Some i) = Means r i

pub found_alike : (f : Row → Bool) (g : Item → Bool) → ((r : Row) (i : Item) → Means r i → f r ≡ g i) → (rows : List Row) (items : List Item) → MeansAll rows items → BothMean (find f rows) (find g items)
found_alike f g same [] [] m = tt
found_alike f g same [] (i ∷ is) m = absurd m
found_alike f g same (r ∷ rs) [] m = absurd m
found_alike f g same (r ∷ rs) (i ∷ is) m = two (f r) (g i) (same r i m.0) (found_alike f g same rs is m.1) where
  two : (b c : Bool) → b ≡ c → BothMean (find f rs) (find g is) → BothMean (cond b (Some r) (find f rs)) (cond c (Some i) (find g is))
  two true true e rest = m.0
  two true false e rest = let z : true ≡ false = e in absurd cc
  two false true e rest = let z : false ≡ true = e in absurd cc
  two false false e rest = rest

pub rows_by_id : (rows : List Row) (items : List Item) (id : ItemId) → MeansAll rows items → BothMean (row_of rows id) (item_of items id)
rows_by_id rows items id m = found_alike (λ r. eqb r.id.0 id.0) (λ i. eqb i.id.0 id.0) (λ r i h. ap (λ v. eqb v.0 id.0) h.id) rows items m

pub rows_by_name : (rows : List Row) (items : List Item) (id : ItemId) (name : List ℕ) → MeansAll rows items → BothMean (find (is_child_row id name) rows) (child_of items id name)
rows_by_name rows items id name m = found_alike (is_child_row id name) (is_child_named id name) (λ r i h. λ k. (eqb (h.parent k).0 id.0) && same (h.name k) name) rows items m
