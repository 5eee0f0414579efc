-- The items below others, level by level, as the code goes them.
use Rattle.std.specs.Prelude.{ℕ, zero, suc, List, [], nat_lt, ◌∷◌, ◌++◌}
use Rattle.cf_base.specs.declared.ids.ItemId.{ItemId}
use Rattle.cf_model.specs.Words.{sorted}
use Rattle.cf_table.specs.Tables.{child_rows, ids_of, rows_by_name}
use Rattle.cf_table.specs.declared.rows.Row.{Row}

-- the children of each of these items, by name
abbrev pub children_in : List Row → List ItemId → List ItemId
children_in rows [] = []
children_in rows (id ∷ ids) = ids_of (rows_by_name (child_rows rows id)) ++ children_in rows ids

-- the children of these items, by id
abbrev pub level_below : List Row → List ItemId → List ItemId
level_below rows level = sorted (λ a b. nat_lt a.0 b.0) (children_in rows level)

-- the items that stand n names below these
unfoldable pub level_at : ℕ → List Row → List ItemId → List ItemId
level_at zero rows level = level
level_at (suc n) rows level = level_at n rows (level_below rows level)

-- these items, the ones a name below them, and so on, n levels
unfoldable pub levels_in : ℕ → List Row → List ItemId → List ItemId
levels_in zero rows level = []
levels_in (suc n) rows level = level ++ levels_in n rows (level_below rows level)
