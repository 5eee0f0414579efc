-- What is shown of a row, and the members that are put for it.
use Rattle.std.specs.Prelude.{ℕ, List, codes, map}
use Rattle.serde_json.specs.Data.{Members, boolean, put, string}
use Rattle.cf_report.specs.Changes.{kind_word, pin_word}
use Rattle.cf_report.specs.Words.{bytes_text, usn_text}
use Rattle.cf_state_rows.specs.Values.{Facts, count_value, facts_value, list_value, run_value}
use Rattle.cf_table.specs.Kinds.{kind_in}
use Rattle.cf_table.specs.declared.rows.Row.{Row}

abbrev pub row_facts : Row → Facts
row_facts r = record {
  here = r.here;
  id = r.id;
  identity = r.identity;
  in_sync = r.in_sync;
  kind = kind_in r;
  name = r.name;
  number = r.number;
  parent = r.parent;
  pin = r.pin;
  size = r.size;
}

-- the members that are put first, second and third, each from its last on

abbrev pub with_last : Facts → Members → Members
with_last f ms =
    put (codes "number") (string (usn_text f.number)) (put (codes "parent") (count_value f.parent.0)
    (put (codes "pin") (string (pin_word f.pin)) (put (codes "size") (count_value f.size) ms)))

abbrev pub with_middle : Facts → Members → Members
with_middle f ms = put (codes "insync") (boolean f.in_sync) (put (codes "kind") (string (kind_word f.kind)) (put (codes "name") (string f.name) ms))

abbrev pub with_first : Facts → Members → Members
with_first f ms = put (codes "here") (list_value (map run_value f.here)) (put (codes "id") (count_value f.id.0) (put (codes "identity") (string (bytes_text f.identity)) ms))

-- and of the whole
abbrev pub with_rows : ℕ → ℕ → List Facts → Members → Members
with_rows count epoch facts ms = put (codes "count") (count_value count) (put (codes "epoch") (count_value epoch) (put (codes "items") (list_value (map facts_value facts)) ms))
