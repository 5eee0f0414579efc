-- What format 1 spells, format 2 spells too.
use Rattle.std.proofs.Common.{◌≡◌, ℕ, ◌<◌, ◌^◌, List, [], ◌∷◌, Option, Some, arith}
use Rattle.cf_codec.specs.declared.formats.Format.{Format}
use Rattle.cf_codec.specs.declared.formats.Format.TheVariants.{First, Second}
use Rattle.cf_model.specs.Rows as model
use Rattle.cf_table.specs.Reading.{AreRows, AreRowsIn, IsRow, IsRowIn}

nothing : (n : ℕ) → n ≡ 0 → n < 2 ^ 64
nothing n is = omega (arith, is)

pub row_in_second : (f : Format) (before : Option ℕ) (r : model.Row) → IsRowIn f before r → IsRow before r
row_in_second First before r is = record {
  head = record {
    who = is.head.who;
    basics = (is.head.basics.0, is.head.basics.1);
    numbers = (is.head.numbers.0, is.head.numbers.1, nothing r.last is.head.numbers.2);
  };
  name = is.name;
  identity = is.identity;
  here = is.here;
  valid = is.valid;
  modified = is.modified;
  modified_since = is.modified_since;
  extents = is.extents;
}
row_in_second Second before r is = is

pub rows_in_second : (f : Format) (before : Option ℕ) (rs : List model.Row) → AreRowsIn f before rs → AreRows before rs
rows_in_second f before [] h = tt
rows_in_second f before (r ∷ rs) h = (row_in_second f before r h.0, rows_in_second f (Some r.id.0) rs h.1)
