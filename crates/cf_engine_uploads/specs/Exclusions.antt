-- Rows of items that are stored as excluded.
use Rattle.std.specs.Prelude.{ℕ, Bool, List}
use Rattle.cf_base.specs.declared.items.Pin.TheVariants as pin
use Rattle.cf_model.specs.LookUp.{is_excluded_pin}
use Rattle.cf_model.specs.Words.{part}
use Rattle.cf_table.specs.Tables.{row_of}
use Rattle.cf_table.specs.declared.rows.Row.{Row}

abbrev pub is_stored_in : List Row → ℕ → Bool
is_stored_in rows id = is_excluded_pin (part (λ r. r.pin) pin.Unspecified (row_of rows (record { 0 = id })))
