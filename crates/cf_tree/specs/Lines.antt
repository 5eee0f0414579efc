-- The way up from an item, as the code goes it.
use Rattle.std.specs.Prelude.{ℕ, zero, suc, cond, List, [], Option, Some, None, ◌∷◌, ◌++◌, ◌==◌}
use Rattle.cf_base.specs.declared.ids.ItemId.{ItemId}
use Rattle.cf_table.specs.Tables.{row_of}
use Rattle.cf_table.specs.declared.rows.Row.{Row}

-- the parent of an item other than the root
abbrev pub parent_in : Option Row → Option ItemId
parent_in None = None
parent_in (Some r) = cond (r.id.0 == 1) None (Some r.parent)

-- the ids from an item up to the root, the root left out, n at most
unfoldable pub line_in : ℕ → List Row → ItemId → List ℕ
line_in zero rows id = []
line_in (suc n) rows id = elim (parent_in (row_of rows id)) as (λ _. List ℕ) [ None ↦ [] | Some parent ↦ id.0 ∷ line_in n rows parent ]

abbrev pub name_in : Option Row → List ℕ
name_in None = []
name_in (Some r) = r.name

-- a slash and a name for each item on the way down to this one, n at most
unfoldable pub path_in : ℕ → List Row → ItemId → List ℕ
path_in zero rows id = []
path_in (suc n) rows id = elim (parent_in (row_of rows id)) as (λ _. List ℕ) [ None ↦ [] | Some parent ↦ path_in n rows parent ++ 47 ∷ name_in (row_of rows id) ]
