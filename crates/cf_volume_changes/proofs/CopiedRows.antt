-- The row of a copy of a file.
use Rattle.std.proofs.Common.{◌≡◌, ℕ, ◌≤◌, List, length, drop, sym, subst, arith, Option, Some, None, length-append, length-drop, replicate}
use Rattle.std.specs.Prelude.{IfOk, MatchOption, Result, Ok, Err}
use Rattle.cf_base.specs.declared.ids.ItemId.{ItemId}
use Rattle.cf_base.specs.declared.memory.OutOfMemory.{OutOfMemory}
use Rattle.cf_model.specs.Effects.{untargeted}
use Rattle.cf_table.specs.Applied.{IsSpellable}
use Rattle.cf_table.specs.Tables.{row_of}
use Rattle.cf_table.specs.declared.new_rows.Place.{Place}
use Rattle.cf_table.specs.declared.rows.Row.{Row}

untargeted_long : (identity : List ℕ) → 8 ≤ length identity → length (untargeted identity) ≡ length identity
untargeted_long identity long = let a = length-append (replicate 8 0) (drop 8 identity) in let b = length-drop 8 identity in omega (arith, a, b, long)

pub copied_spells : (result : Result Row OutOfMemory) (place : Place) (source : Row) → IfOk result (λ r. (r.id ≡ place.id) × (r.name ≡ place.name) × (r.identity ≡ untargeted source.identity) × (r.number ≡ place.number))
    → length place.name ≤ 255 → 8 ≤ length source.identity → IsSpellable source → IfOk result IsSpellable
copied_spells (Err e) place source texts name long spells = tt
copied_spells (Ok r) place source texts name long spells =
    let same = untargeted_long source.identity long in
    let short : length (untargeted source.identity) ≤ 65535 = omega (arith, same, spells.identity) in
    record {
      name = subst (λ (l : List ℕ). length l ≤ 255) (sym texts.1) name;
      identity = subst (λ (l : List ℕ). length l ≤ 65535) (sym texts.2) short;
    }

pub source_identity : (rows : List Row) (from : ItemId) (source : Row) → MatchOption (row_of rows from) ⊥ (λ r. 8 ≤ length r.identity) → row_of rows from ≡ Some source → 8 ≤ length source.identity
source_identity rows from source fits found = subst (λ (o : Option Row). MatchOption o ⊥ (λ r. 8 ≤ length r.identity)) found fits

pub source_there : (rows : List Row) (from : ItemId) → MatchOption (row_of rows from) ⊥ (λ r. 8 ≤ length r.identity) → row_of rows from ≡ None → ⊥
source_there rows from fits none = subst (λ (o : Option Row). MatchOption o ⊥ (λ r. 8 ≤ length r.identity)) none fits
