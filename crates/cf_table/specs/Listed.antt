-- Rows without their index.
use Rattle.std.specs.Prelude.{ℕ, List, Option, ◌≡◌}
use Rattle.cf_table.specs.Tables.{IsTable}
use Rattle.cf_table.specs.Targets.{AreBounded, IsBoundOfRoot}
use Rattle.cf_table.specs.Unlisted.{unlisted_in}
use Rattle.cf_table.specs.declared.rows.Row.{Row}

-- as `AreKept` says it of rows with their index
pub record AreListed (rows : List Row) (n : ℕ) (bound : Option ℕ) (count : ℕ) : Type 0 where
  pub table : IsTable rows n
  pub bounded : AreBounded bound rows
  pub root : IsBoundOfRoot bound
  pub unlisted : count ≡ unlisted_in rows
