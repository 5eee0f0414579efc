-- What stands at paths, by rows and by the items that these mean.
use Rattle.std.proofs.Common.{◌≡◌, ℕ, zero, suc, Bool, true, false, not, cond, List, [], ◌∷◌, ◌++◌, ◌&&◌, eqb, map, refl, ap, ◌∙◌}
use Rattle.std.specs.Prelude.{Option, Some, None, filter}
use Rattle.cf_base.specs.declared.ids.ItemId.{ItemId}
use Rattle.cf_model.specs.Items.{Item, item_of}
use Rattle.cf_model.specs.State.{State, items_now}
use Rattle.cf_pair_paths.specs.PathsByRows as table
use Rattle.cf_pair_paths.specs.PathsByRows.{is_below_root, path_row_in, path_rows_in}
use Rattle.cf_pair_traces.specs.Pairs as pairs
use Rattle.cf_pair_traces.specs.Pairs.{path_row, path_rows}
use Rattle.cf_table.specs.Kinds.{kind_by}
use Rattle.cf_table.specs.Means.{Means}
use Rattle.cf_table.specs.Tables.{MeansAll, row_of}
use Rattle.cf_table.specs.declared.rows.Row.{Row}
use Rattle.cf_tree.proofs.Alike.{BothMean, rows_by_id}

pub paths_alike : (n : ℕ) (rows : List Row) (items : List Item) (r : Option Row) (i : Option Item) → MeansAll rows items → BothMean r i → table.path_in n rows r ≡ pairs.path_in n items i
paths_alike zero rows items r i m b = refl
paths_alike (suc n) rows items None None m b = refl
paths_alike (suc n) rows items None (Some i) m b = absurd b
paths_alike (suc n) rows items (Some r) None m b = absurd b
paths_alike (suc n) rows items (Some r) (Some i) m b =
    let up : table.path_in n rows (row_of rows r.parent) ≡ pairs.path_in n items (item_of items i.parent) =
    ap (λ (p : ItemId). table.path_in n rows (row_of rows p)) b.parent ∙ paths_alike n rows items (row_of rows i.parent) (item_of items i.parent) m (rows_by_id rows items i.parent m) in
    λ j. cond (eqb (b.id j).0 1) [] (up j ++ 47 ∷ b.name j)

row_alike : (rows : List Row) (items : List Item) (r : Row) (i : Item) → MeansAll rows items → Means r i → path_row_in rows r ≡ path_row items i
row_alike rows items r i m b =
    let path : table.path_in 33 rows (Some r) ≡ pairs.path_in 33 items (Some i) = paths_alike 33 rows items (Some r) (Some i) m b in
    λ j. record { path = path j; kind = kind_by (b.directory j) (b.populated j) (b.placeholder j); identity = b.identity j; dirty = not (b.directory j) && b.bytes.dirty j }

abbrev is_below : Item → Bool
is_below i = not (eqb i.id.0 1)

all_alike : (rows : List Row) (items : List Item) (rs : List Row) (is : List Item) → MeansAll rows items → MeansAll rs is → map (path_row_in rows) (filter is_below_root rs) ≡ map (path_row items) (filter is_below is)
all_alike rows items [] [] m h = refl
all_alike rows items [] (i ∷ is) m h = absurd h
all_alike rows items (r ∷ rs) [] m h = absurd h
all_alike rows items (r ∷ rs) (i ∷ is) m h = two (is_below_root r) (is_below i) (ap (λ (d : ItemId). not (eqb d.0 1)) h.0.id) (row_alike rows items r i m h.0) (all_alike rows items rs is m h.1) where
  two : (p q : Bool) → p ≡ q → path_row_in rows r ≡ path_row items i → map (path_row_in rows) (filter is_below_root rs) ≡ map (path_row items) (filter is_below is)
      → map (path_row_in rows) (cond p (r ∷ filter is_below_root rs) (filter is_below_root rs)) ≡ map (path_row items) (cond q (i ∷ filter is_below is) (filter is_below is))
  two true true e first rest = λ j. first j ∷ rest j
  two true false e first rest = let z : true ≡ false = e in absurd cc
  two false true e first rest = let z : false ≡ true = e in absurd cc
  two false false e first rest = rest

pub rows_alike : (rows : List Row) (s : State) → MeansAll rows (items_now s) → path_rows_in rows ≡ path_rows s
rows_alike rows s m = all_alike rows (items_now s) rows (items_now s) m m
