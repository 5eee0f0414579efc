-- The first item that passes a test, sought in the rows one after the other.
use Rattle.std.proofs.Common.{◌≡◌, Bool, List}
use Rattle.std.specs.Prelude.{find}
use Rattle.cf_model.specs.Items.{Item}
use Rattle.cf_table.specs.Tables.{MeansAll}
use Rattle.cf_table.specs.declared.rows.Row.{Row}

-- rows are left, in whose items the first one is that of all
abbrev pub AreLeft : (Item → Bool) → List Row → List Item → Type 0
AreLeft test rows items = (rest : List Item) × MeansAll rows rest × (find test items ≡ find test rest)
