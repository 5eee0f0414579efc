-- A look-up, name by name, as the rows say it.
use Rattle.std.specs.Prelude.{ℕ, List, [], not, find, ok_or, Option, Some, None, Result, Ok, Err, ◌∷◌}
use denote.Ref.{Bor}
use Rattle.cf_base.specs.declared.codes.Code.{Code}
use Rattle.cf_base.specs.declared.codes.Code.TheVariants as code
use Rattle.cf_base.specs.declared.ids.ItemId.{ItemId}
use Rattle.cf_model.specs.LookUp.{refused_or}
use Rattle.cf_model.specs.Words.{first_of}
use Rattle.cf_table.specs.Tables.{id_of, is_child_row, row_of}
use Rattle.cf_table.specs.declared.rows.Row.{Row}

-- why no name is looked up in the item of the row
abbrev pub closed : Option Row → Option Code
closed None = Some code.NotFound
closed (Some r) = first_of ((not r.dir, code.NotDirectory) ∷ (not r.populated, code.NotPopulated) ∷ [])

abbrev pub step_in : List Row → ItemId → List ℕ → Result ItemId Code
step_in rows at name = refused_or (closed (row_of rows at)) (ok_or (id_of (find (is_child_row at name) rows)) code.NotFound)

-- from the item on, by these names
abbrev pub walk_in : List Row → ItemId → List (List ℕ) → Result ItemId Code
walk_in rows at [] = Ok at
walk_in rows at (n ∷ ns) = elim (step_in rows at n) as (λ _. Result ItemId Code) [ Ok next ↦ walk_in rows next ns | Err c ↦ Err c ]

-- the place of a name in a directory
abbrev pub place_at : List Row → List ℕ → ItemId → Result (ItemId × List ℕ) Code
place_at rows name at = refused_or (closed (row_of rows at)) (Ok (at, name))

-- by all names but the last, which is n where there are no others
abbrev pub place_in : List Row → ItemId → List ℕ → List (List ℕ) → Result (ItemId × List ℕ) Code
place_in rows at n [] = place_at rows n at
place_in rows at n (m ∷ ms) = elim (step_in rows at n) as (λ _. Result (ItemId × List ℕ) Code) [ Ok next ↦ place_in rows next m ms | Err c ↦ Err c ]

abbrev pub place_of_names : List Row → List (List ℕ) → Result (ItemId × List ℕ) Code
place_of_names rows [] = Err code.BadPath
place_of_names rows (n ∷ ns) = place_in rows (record { 0 = 1 }) n ns

-- the name that an answer points to
abbrev pub told : Result (ItemId × Bor (List ℕ)) Code → Result (ItemId × List ℕ) Code
told (Ok p) = Ok (p.0, p.1.now)
told (Err c) = Err c
