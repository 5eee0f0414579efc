-- How waits end: what a read gives, and the entries of a directory.
use Rattle.std.specs.Prelude.{◌≡◌, ◌≤◌, ◌+◌, ◌-◌, ◌^◌, ℕ, List, [], ◌∷◌, Option, MatchOption, min}
use Rattle.cf_base.specs.declared.ids.ItemId.{ItemId}
use Rattle.cf_base.specs.declared.items.ListedItem.{ListedItem}
use Rattle.cf_base.specs.declared.spans.Span.{Span}
use Rattle.cf_table.specs.Tables.{row_of}
use Rattle.cf_table.specs.declared.rows.Row.{Row}
use Rattle.cf_volume.specs.Calls.{IsHere}

-- a span as far as a size
abbrev pub cut_at : Span → ℕ → Span
cut_at asked size = record { start = min asked.start size; len = min (asked.start + asked.len) size - min asked.start size }

-- the row is there, and this is the span as far as its size, all of which is here
pub record IsCutHere (row : Option Row) (asked cut : Span) : Type 0 where
  pub near : cut.start + cut.len ≤ 2 ^ 40
  pub here : IsHere row cut.start (cut.start + cut.len)
  pub cuts : MatchOption row ⊥ (λ r. cut ≡ cut_at asked r.size)

abbrev pub entry_of : Row → ListedItem
entry_of r = record { name = r.name; dir = r.dir }

-- the entries of these rows, in their order
abbrev pub AreEntriesOf : List Row → List ItemId → List ListedItem → Type 0
AreEntriesOf rows [] [] = Unit {0}
AreEntriesOf rows [] (e ∷ es) = ⊥
AreEntriesOf rows (i ∷ is) [] = ⊥
AreEntriesOf rows (i ∷ is) (e ∷ es) = MatchOption (row_of rows i) ⊥ (λ r. e ≡ entry_of r) × AreEntriesOf rows is es
