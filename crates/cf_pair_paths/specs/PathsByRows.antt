-- What stands at each path, as the code has it: by rows.
use Rattle.std.specs.Prelude.{ℕ, zero, suc, Bool, not, cond, filter, map, List, [], ◌∷◌, ◌++◌, ◌==◌, ◌&&◌, Option, Some, None}
use Rattle.cf_pair_compare.specs.declared.path_rows.PathRow.{PathRow}
use Rattle.cf_table.specs.Kinds.{kind_in}
use Rattle.cf_table.specs.Tables.{row_of}
use Rattle.cf_table.specs.declared.rows.Row.{Row}

-- the path of a row to which so many names lead at most
abbrev pub path_in : ℕ → List Row → Option Row → List ℕ
path_in zero rows r = []
path_in (suc fuel) rows None = []
path_in (suc fuel) rows (Some r) = cond (r.id.0 == 1) [] (path_in fuel rows (row_of rows r.parent) ++ 47 ∷ r.name)

abbrev pub is_below_root : Row → Bool
is_below_root r = not (r.id.0 == 1)

abbrev pub path_row_in : List Row → Row → PathRow
path_row_in rows r = record { path = path_in 33 rows (Some r); kind = kind_in r; identity = r.identity; dirty = not r.dir && r.dirty }

abbrev pub path_rows_in : List Row → List PathRow
path_rows_in rows = map (path_row_in rows) (filter is_below_root rows)
