-- Directories whose entries are not known.
use Rattle.std.specs.Prelude.{ℕ, Bool, List, not, count_by, ◌&&◌}
use Rattle.cf_table.specs.declared.rows.Row.{Row}

abbrev pub is_unlisted : Row → Bool
is_unlisted r = r.dir && not r.populated

-- how many of the rows are of such a directory
abbrev pub unlisted_in : List Row → ℕ
unlisted_in rows = count_by is_unlisted rows
