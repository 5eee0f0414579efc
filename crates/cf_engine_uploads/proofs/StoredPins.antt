-- An item is excluded by what is stored on the way up from it.
use Rattle.std.proofs.Common.{◌≡◌, ℕ, ◌+◌, ◌-◌, ◌<◌, Bool, true, false, cond, List, [], ◌∷◌, refl, sym, ◌∙◌, ap, arith}
use Rattle.std.specs.List.{list_any}
use Rattle.std.specs.Prelude.{Option, Some, None, ◌||◌, ◌==◌}
use Rattle.cf_base.specs.declared.ids.ItemId.{ItemId}
use Rattle.cf_base.specs.declared.items.Pin.{Pin}
use Rattle.cf_base.specs.declared.items.Pin.TheVariants as pin
use Rattle.cf_engine_uploads.specs.Exclusions.{is_stored_in}
use Rattle.cf_filter_steps.proofs.RowReads.{both_read}
use Rattle.cf_model.specs.Items.{Item, item_of, pin_of}
use Rattle.cf_model.specs.LookUp.{is_excluded, is_excluded_pin, item_line}
use Rattle.cf_model.specs.Words.{part}
use Rattle.cf_table.specs.Tables.{MeansAll, row_of}
use Rattle.cf_table.specs.declared.rows.Row.{Row}
use Rattle.cf_tree.proofs.Alike.{rows_by_id}
use Rattle.cf_tree.proofs.WayUp.{ends_here, goes_up, line_is, no_fuel}
use Rattle.cf_tree.specs.Lines.{line_in, parent_in}
use Rattle.cf_tree.specs.Trees.{IsTree}

-- what is stored of an item is that of its row

first_pin : (b : Bool) (i : Item) (o : Option Item) (p : Pin) → part (λ (j : Item). j.pin) pin.Unspecified o ≡ p → part (λ (j : Item). j.pin) pin.Unspecified (cond b (Some i) o) ≡ cond b i.pin p
first_pin true i o p e = refl
first_pin false i o p e = e

pins : (items : List Item) (id : ItemId) → part (λ (i : Item). i.pin) pin.Unspecified (item_of items id) ≡ pin_of items id
pins [] id = refl
pins (i ∷ is) id = first_pin (i.id.0 == id.0) i (item_of is id) (pin_of is id) (pins is id)

stored_is : (rows : List Row) (items : List Item) → MeansAll rows items → (k : ℕ) → is_stored_in rows k ≡ is_excluded_pin (pin_of items (record { 0 = k }))
stored_is rows items m k =
    ap is_excluded_pin (both_read (λ (r : Row). r.pin) (λ (i : Item). i.pin) pin.Unspecified (λ r i h. h.pin) (row_of rows (record { 0 = k })) (item_of items (record { 0 = k })) (rows_by_id rows items (record { 0 = k }) m) ∙ pins items (record { 0 = k }))

-- on the way up

abbrev pub stored_on : List Row → List ℕ → Bool
stored_on rows ids = list_any (is_stored_in rows) ids

abbrev pub IsUp : List Row → ItemId → ℕ → ItemId → Type 0
IsUp rows id depth at = stored_on rows (line_in (32 - depth) rows at) ≡ stored_on rows (line_in 32 rows id)

first_true : (b c : Bool) → b ≡ true → true ≡ (b || c)
first_true true c e = refl
first_true false c e = let z : false ≡ true = e in absurd cc

first_false : (b c : Bool) → b ≡ false → (b || c) ≡ c
first_false false c e = refl
first_false true c e = let z : true ≡ false = e in absurd cc

module _ (rows : List Row) (id at : ItemId) (depth : ℕ) (up : IsUp rows id depth at) where
  pub ends_up : parent_in (row_of rows at) ≡ None → false ≡ stored_on rows (line_in 32 rows id)
  ends_up e = sym (ap (stored_on rows) (ends_here (32 - depth) rows at e)) ∙ up

  pub fuel_ends : 32 - depth ≡ 0 → false ≡ stored_on rows (line_in 32 rows id)
  fuel_ends e = sym (ap (λ (n : ℕ). stored_on rows (line_in n rows at)) e ∙ ap (stored_on rows) (no_fuel rows at)) ∙ up

  module _ (parent : ItemId) (small : depth < 32) (is : parent_in (row_of rows at) ≡ Some parent) where
    one_up : stored_on rows (line_in (32 - depth) rows at) ≡ (is_stored_in rows at.0 || stored_on rows (line_in (32 - (depth + 1)) rows parent))
    one_up =
        let less : 32 - depth - 1 ≡ 32 - (depth + 1) = omega arith in
        ap (stored_on rows) (goes_up (32 - depth) rows at parent (omega arith) is) ∙ ap (λ (n : ℕ). is_stored_in rows at.0 || stored_on rows (line_in n rows parent)) less

    pub stored_here : is_stored_in rows at.0 ≡ true → true ≡ stored_on rows (line_in 32 rows id)
    stored_here e = first_true (is_stored_in rows at.0) (stored_on rows (line_in (32 - (depth + 1)) rows parent)) e ∙ sym one_up ∙ up

    pub stored_above : is_stored_in rows at.0 ≡ false → IsUp rows id (depth + 1) parent
    stored_above e = sym (first_false (is_stored_in rows at.0) (stored_on rows (line_in (32 - (depth + 1)) rows parent)) e) ∙ sym one_up ∙ up

-- of the items

module _ (rows : List Row) (items : List Item) (id : ItemId) (m : MeansAll rows items) (t : IsTree items) where
  all_is : (is_stored_in rows 1 || stored_on rows (line_in 32 rows id)) ≡ is_excluded items id
  all_is =
      ap (λ (l : List ℕ). is_stored_in rows 1 || stored_on rows l) (line_is 32 rows items id m t (omega arith))
      ∙ (λ j. list_any (λ k. stored_is rows items m k j) (1 ∷ item_line items id))

  pub root_excluded : is_stored_in rows 1 ≡ true → true ≡ is_excluded items id
  root_excluded e = first_true (is_stored_in rows 1) (stored_on rows (line_in 32 rows id)) e ∙ all_is

  pub line_excluded : is_stored_in rows 1 ≡ false → stored_on rows (line_in 32 rows id) ≡ is_excluded items id
  line_excluded e = sym (first_false (is_stored_in rows 1) (stored_on rows (line_in 32 rows id)) e) ∙ all_is
