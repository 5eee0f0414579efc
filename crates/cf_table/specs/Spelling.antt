-- How rows are spelled.
use Rattle.std.specs.Prelude.{ℕ, List, length, map, All, ◌+◌, ◌^◌, ◌<◌, ◌++◌}
use Rattle.cf_base.specs.declared.spans.Span.{Span}
use Rattle.std.specs.List.{flat_map}
use Rattle.cf_codec.specs.declared.formats.Format.{Format}
use Rattle.cf_codec.specs.declared.formats.Format.TheVariants.{First, Second}
use Rattle.cf_model.specs.FirstRows as first
use Rattle.cf_model.specs.Rows.{Extent, spell_extent, spell_row, spell_run}
use Rattle.cf_model.specs.Rows as model
use Rattle.cf_model.specs.Words.{in_bytes}
use Rattle.cf_table.specs.Applied.{IsSpellable}
use Rattle.cf_table.specs.declared.rows.Row.{Row}

abbrev pub extent_of : ℕ × ℕ → Extent
extent_of p = record { block = p.0; cluster = p.1 }

-- the row as its spelling is defined of it
abbrev pub row_value : Row → model.Row
row_value r = record {
  id = r.id;
  parent = r.parent;
  directory = r.dir;
  placeholder = r.placeholder;
  populated = r.populated;
  in_sync = r.in_sync;
  dirty = r.dirty;
  dirty_since = r.dirty_since;
  keep = r.keep;
  pin = r.pin;
  size = r.size;
  base = r.base;
  number = r.number;
  anchor = r.anchor;
  last = r.last;
  name = r.name;
  identity = r.identity;
  here = r.here;
  valid = r.valid;
  modified = r.modified;
  modified_since = r.modified_since;
  extents = map extent_of r.extents;
}

-- each run ends below 2 ^ 32
abbrev pub EndBelow : List Span → Type 0
EndBelow runs = All (λ s. s.start + s.len < 2 ^ 32) runs

-- the fields of the row have room in its spelling
pub record HasRoom (row : Row) : Type 0 where
  pub texts : IsSpellable row
  pub here : EndBelow row.here
  pub valid : EndBelow row.valid
  pub modified : EndBelow row.modified
  pub modified_since : EndBelow row.modified_since
  pub extents : length row.extents < 2 ^ 32

abbrev pub spell_spans : List Span → List ℕ
spell_spans runs = flat_map spell_run runs

abbrev pub spell_pairs : List (ℕ × ℕ) → List ℕ
spell_pairs pairs = flat_map spell_extent (map extent_of pairs)

abbrev pub spell_row_in : Format → model.Row → List ℕ
spell_row_in First r = first.spell_row r
spell_row_in Second r = spell_row r

abbrev pub spell_rows_in : Format → List model.Row → List ℕ
spell_rows_in f rs = in_bytes 4 (length rs) ++ flat_map (spell_row_in f) rs

-- all rows one after the other
abbrev pub spell_each_in : Format → List Row → List ℕ
spell_each_in f rows = flat_map (spell_row_in f) (map row_value rows)

abbrev pub spell_each : List Row → List ℕ
spell_each rows = flat_map spell_row (map row_value rows)
