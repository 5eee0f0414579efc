use Rattle.std.proofs.Common.{◌≡◌, ◌++◌, map, drop}
use Rattle.std.specs.Prelude.{filter}
use Rattle.cf_pair_paths.specs.PathsByRows.{is_below_root, path_row_in}
use Rattle.cf_pair_paths.proofs.listings.list_rows.Given as goal

-- those so far, and those of the rest, are all
abbrev pub invariant-loop-row : goal.invariant-loop-row
invariant-loop-row l = l.out.items ++ map (path_row_in l.rows.rows) (filter is_below_root (drop l.row-index l.rows.rows)) ≡ map (path_row_in l.rows.rows) (filter is_below_root l.rows.rows)
