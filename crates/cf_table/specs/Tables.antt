-- The rows of a table, in order of id, and the items that they tell of.
use Rattle.std.specs.Prelude.{ℕ, Bool, true, not, cond, List, [], length, map, Option, Some, None, find, filter, MatchOption, All, get_or, set, nat_lt, unwrap_or, ◌+◌, ◌*◌, ◌^◌, ◌≤◌, ◌<◌, ◌≡◌, ◌&&◌, ◌==◌, ◌∷◌}
use Rattle.cf_base.specs.declared.ids.ItemId.{ItemId}
use Rattle.cf_base.specs.declared.items.Pin.{Pin}
use Rattle.cf_base.specs.declared.items.Pin.TheVariants as pin
use Rattle.cf_model.specs.Items.{Item}
use Rattle.cf_model.specs.Words.{comes_before, same, sorted}
use Rattle.cf_ranges.specs.Pairs.{IsRising}
use Rattle.cf_ranges.specs.Positions.{IsRuns}
use Rattle.cf_table.specs.Applied.{IsSpellable}
use Rattle.cf_table.specs.Means.{Means}
use Rattle.cf_table.specs.Reading.{IsUsn}
use Rattle.cf_table.specs.declared.rows.Row.{Row}

-- the rows by id, and the id that the next item gets
pub record Table : Type 0 where
  pub rows : List Row
  pub next : ItemId

-- the rows mean the items, each the one at its place
abbrev pub MeansAll : List Row → List Item → Type 0
MeansAll [] [] = Unit {0}
MeansAll [] (i ∷ is) = ⊥
MeansAll (r ∷ rs) [] = ⊥
MeansAll (r ∷ rs) (i ∷ is) = Means r i × MeansAll rs is

-- the ids rise, from low on
abbrev pub RisesFrom : ℕ → List Row → Type 0
RisesFrom low [] = Unit {0}
RisesFrom low (r ∷ rs) = (low ≤ r.id.0) × RisesFrom (r.id.0 + 1) rs

abbrev pub row_of : List Row → ItemId → Option Row
row_of rows id = find (λ r. r.id.0 == id.0) rows

abbrev pub without_row : ItemId → List Row → List Row
without_row id rows = filter (λ r. not (r.id.0 == id.0)) rows

-- the rows with this one, in place of the one with its id where there is one
abbrev pub with_row : Row → List Row → List Row
with_row row [] = row ∷ []
with_row row (r ∷ rs) = cond (nat_lt r.id.0 row.id.0) (r ∷ with_row row rs) (cond (r.id.0 == row.id.0) (row ∷ rs) (row ∷ r ∷ rs))

-- the row at place i has the id
pub record IsRowAt (rows : List Row) (id i : ℕ) : Type 0 where
  pub in_range : i < length rows
  pub has_id : (d : Row) → (get_or rows i d).id.0 ≡ id

-- no row has the id, which would go at place i
pub record IsRowGap (rows : List Row) (id i : ℕ) : Type 0 where
  pub in_range : i ≤ length rows
  pub lower_before : (k : ℕ) (d : Row) → k < i → (get_or rows k d).id.0 < id
  pub higher_after : (k : ℕ) (d : Row) → i ≤ k → k < length rows → id < (get_or rows k d).id.0

-- how many bytes spell a row
abbrev pub row_len : Row → ℕ
row_len r = 74 + length r.name + length r.identity + 8 * (length r.here + length r.valid + length r.modified + length r.modified_since + length r.extents)

-- how many bytes spell the rows, after the four of their count
abbrev pub rows_len : List Row → ℕ
rows_len [] = 0
rows_len (r ∷ rs) = row_len r + rows_len rs

-- the pin of the row with the id
abbrev pub pin_at : List Row → ItemId → Pin
pin_at [] id = pin.Unspecified
pin_at (r ∷ rs) id = cond (r.id.0 == id.0) r.pin (pin_at rs id)

-- The form in which a table keeps what a row has: sets as their maximal runs, extents in order of block.
pub record IsStored (row : Row) : Type 0 where
  pub size : row.size < 2 ^ 32
  pub here : IsRuns row.here
  pub valid : IsRuns row.valid
  pub modified : IsRuns row.modified
  pub modified_since : IsRuns row.modified_since
  pub extents : IsRising row.extents

-- the numbers of a row have room in their fields
pub record IsInRange (row : Row) : Type 0 where
  pub id : row.id.0 < 2 ^ 64
  pub parent : row.parent.0 < 2 ^ 64
  pub size : row.size < 2 ^ 32
  pub base : unwrap_or row.base 0 < 2 ^ 32
  pub number : IsUsn row.number
  pub anchor : IsUsn row.anchor
  pub last : row.last < 2 ^ 64
  pub extents : All (λ (e : ℕ × ℕ). (e.0 < 2 ^ 32) × (e.1 < 2 ^ 32)) row.extents

-- a row as a table keeps it; no row can be longer than that
pub record IsTableRow (row : Row) : Type 0 where
  pub spellable : IsSpellable row
  pub stored : IsStored row
  pub range : IsInRange row
  pub short : row_len row ≤ 2 ^ 47

abbrev pub AreTableRows : List Row → Type 0
AreTableRows [] = Unit {0}
AreTableRows (r ∷ rs) = IsTableRow r × AreTableRows rs

-- rows as a table keeps them, and how many bytes spell them
pub record IsTable (rows : List Row) (n : ℕ) : Type 0 where
  pub rises : RisesFrom 0 rows
  pub kept : AreTableRows rows
  pub len : n ≡ rows_len rows

-- new is old with another row at place k, one that P allows in place of the old
abbrev pub SetsAt : (Row → Row → Type 0) → ℕ → List Row → List Row → Type 0
SetsAt P k old new = (s : Row) × P (get_or old k s) s × (new ≡ set old k s)

-- new is old with another row in place of that with the id, one that P allows; nothing changes where there is none
abbrev pub SetsRow : (Row → Row → Type 0) → ItemId → List Row → List Row → Type 0
SetsRow P id old new = MatchOption (row_of old id) (new ≡ old) (λ r. (s : Row) × P r s × (new ≡ with_row s old))

-- the rows after an id in order, or all rows
abbrev pub comes_after : Option ItemId → Row → Bool
comes_after None r = true
comes_after (Some id) r = nat_lt id.0 r.id.0

abbrev pub is_child_row : ItemId → List ℕ → Row → Bool
is_child_row parent name r = (r.parent.0 == parent.0) && same r.name name

abbrev pub child_rows : List Row → ItemId → List Row
child_rows rows parent = filter (λ r. r.parent.0 == parent.0) rows

-- by name; those of one name stay in order
abbrev pub rows_by_name : List Row → List Row
rows_by_name rows = sorted (λ r s. comes_before r.name s.name) rows

-- the id of a row that may be there
abbrev pub id_of : Option Row → Option ItemId
id_of None = None
id_of (Some r) = Some r.id

abbrev pub ids_of : List Row → List ItemId
ids_of rows = map (λ r. r.id) rows
