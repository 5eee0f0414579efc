-- The index of a table: where its items stand, in order of parent, of name there, and of id.
use Rattle.std.specs.Prelude.{ℕ, Bool, true, false, not, List, [], length, map, filter, get_or, Option, None, Some, ◌≤◌, ◌<◌, ◌≡◌, ◌==◌, ◌&&◌, ◌∷◌}
use Rattle.std.specs.Cmp.Lexicographic.{slice_cmp}
use Rattle.std.specs.Ordering.{is_eq, is_lt, nat_cmp, ordering_then}
use Rattle.std.specs.declared.cmp.Ordering.{Ordering}
use Rattle.cf_base.specs.declared.ids.ItemId.{ItemId}
use Rattle.cf_model.specs.Words.{same, sorted}
use Rattle.cf_table.specs.Tables.{IsTable}
use Rattle.cf_table.specs.declared.entries.Entry.{Entry}
use Rattle.cf_table.specs.declared.rows.Row.{Row}

abbrev pub entry_at : ItemId → List ℕ → ItemId → Entry
entry_at parent name id = record { parent = parent; name = name; id = id }

-- by parent, then by name, then by id
abbrev pub compared : Entry → Entry → Ordering
compared e f = ordering_then (nat_cmp e.parent.0 f.parent.0) (ordering_then (slice_cmp nat_cmp e.name f.name) (nat_cmp e.id.0 f.id.0))

abbrev pub stands_before : Entry → Entry → Bool
stands_before e f = is_lt (compared e f)

-- how many entries come before the one that is asked for
pub record IsPlaceOf (key : Entry) (entries : List Entry) (n : ℕ) : Type 0 where
  pub in_range : n ≤ length entries
  pub before : (k : ℕ) (d : Entry) → k < n → stands_before (get_or entries k d) key ≡ true
  pub from : (k : ℕ) (d : Entry) → n ≤ k → k < length entries → stands_before (get_or entries k d) key ≡ false

-- the first entry is the one that is asked for
abbrev pub begins_with : Entry → List Entry → Bool
begins_with key [] = false
begins_with key (e ∷ es) = is_eq (compared e key)

abbrev pub without_entry : Entry → List Entry → List Entry
without_entry key entries = filter (λ e. not (is_eq (compared e key))) entries

abbrev pub is_entry_in : ItemId → Entry → Bool
is_entry_in parent e = e.parent.0 == parent.0

abbrev pub is_entry_of : ItemId → List ℕ → Entry → Bool
is_entry_of parent name e = (e.parent.0 == parent.0) && same e.name name

abbrev pub entry_id : Option Entry → Option ItemId
entry_id None = None
entry_id (Some e) = Some e.id

abbrev pub entry_ids : List Entry → List ItemId
entry_ids entries = map (λ e. e.id) entries

-- the index of the rows

abbrev pub entry_of : Row → Entry
entry_of r = entry_at r.parent r.name r.id

abbrev pub entries_of : List Row → List Entry
entries_of rows = map entry_of rows

abbrev pub index_of : List Row → List Entry
index_of rows = sorted stands_before (entries_of rows)

-- rows as a table keeps them, with their index and how many bytes spell them
pub record IsIndexed (rows : List Row) (entries : List Entry) (n : ℕ) : Type 0 where
  pub table : IsTable rows n
  pub index : entries ≡ index_of rows
