-- Rows that have room in their spelling.
use Rattle.std.specs.Prelude.{Bool, List, length, nat_lt, ◌+◌, ◌&&◌}
use Rattle.std.specs.List.{list_all}
use Rattle.cf_base.specs.declared.spans.Span.{Span}
use Rattle.cf_table.specs.declared.rows.Row.{Row}

-- each run ends below 2 ^ 32
abbrev pub are_low : List Span → Bool
are_low runs = list_all (λ s. nat_lt (s.start + s.len) 4294967296) runs

-- so do those of each set of the row, and it has fewer extents
abbrev pub has_low_ends : Row → Bool
has_low_ends r = are_low r.here && are_low r.valid && are_low r.modified && are_low r.modified_since && nat_lt (length r.extents) 4294967296
