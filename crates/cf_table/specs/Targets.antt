-- The items of the remote that rows name, by how high they are.
use Rattle.std.specs.Prelude.{ℕ, List, Option, MatchOption, All, take, ◌≤◌, ◌≡◌}
use Rattle.cf_model.specs.Words.{number_of}
use Rattle.cf_table.specs.Index.{IsIndexed}
use Rattle.cf_table.specs.Unlisted.{unlisted_in}
use Rattle.cf_table.specs.declared.entries.Entry.{Entry}
use Rattle.cf_table.specs.declared.rows.Row.{Row}

-- the number with which an identity begins: of one that an engine gave, the item of the remote that it names
abbrev pub first_number : List ℕ → ℕ
first_number identity = number_of (take 8 identity)

-- that is no greater than the bound, if there is one
abbrev pub IsBounded : Option ℕ → List ℕ → Type 0
IsBounded bound identity = MatchOption bound (Unit {0}) (λ b. first_number identity ≤ b)

abbrev pub AreBounded : Option ℕ → List Row → Type 0
AreBounded bound rows = All (λ r. IsBounded bound r.identity) rows

-- the root is the remote's item 1
abbrev pub IsBoundOfRoot : Option ℕ → Type 0
IsBoundOfRoot bound = MatchOption bound (Unit {0}) (λ b. 1 ≤ b)

-- rows with their index, how many bytes spell them, a bound of the items of the remote that they name, and how many are of a directory
-- whose entries are not known
pub record AreKept (rows : List Row) (entries : List Entry) (n : ℕ) (bound : Option ℕ) (count : ℕ) : Type 0 where
  pub indexed : IsIndexed rows entries n
  pub bounded : AreBounded bound rows
  pub root : IsBoundOfRoot bound
  pub unlisted : count ≡ unlisted_in rows
