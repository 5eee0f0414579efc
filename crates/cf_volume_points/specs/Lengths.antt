-- How long a row is with so many extents.
use Rattle.std.specs.Prelude.{◌+◌, ◌*◌, ℕ, length}
use Rattle.cf_table.specs.declared.rows.Row.{Row}

abbrev pub len_with : Row → ℕ → ℕ
len_with r n = 74 + length r.name + length r.identity + 8 * (length r.here + length r.valid + length r.modified + length r.modified_since + n)
