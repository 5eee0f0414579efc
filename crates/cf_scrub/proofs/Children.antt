-- Whether an item has a child.
use Rattle.std.proofs.Common.{◌≡◌, ℕ, ◌==◌, ◌∙◌, length, Bool, true, false, ◌||◌, not, cond, List, [], ◌∷◌, refl, ap, arith, eqb}
use Rattle.std.proofs.lemmas.Bool.{ne_eqb}
use Rattle.std.specs.Prelude.{map}
use Rattle.cf_base.specs.declared.ids.ItemId.{ItemId}
use Rattle.cf_model.specs.Words.{is_empty, put_in, sorted}
use Rattle.cf_scrub.specs.RowTests.{has_child}
use Rattle.cf_table.specs.Spelling.{row_value}
use Rattle.cf_table.specs.Tables.{child_rows, ids_of, rows_by_name}
use Rattle.cf_table.specs.declared.rows.Row.{Row}

is_put : {A : Type 0} (before : A → A → Bool) (x : A) (xs : List A) → is_empty (put_in before x xs) ≡ false
is_put before x [] = refl
is_put {A} before x (y ∷ ys) = by (before y x) where
  by : (b : Bool) → is_empty (cond b (y ∷ put_in before x ys) (x ∷ y ∷ ys)) ≡ false
  by true = refl
  by false = refl

as_empty : {A : Type 0} (before : A → A → Bool) (xs : List A) → is_empty (sorted before xs) ≡ is_empty xs
as_empty before [] = refl
as_empty before (x ∷ xs) = is_put before x (sorted before xs)

ids_empty : (rows : List Row) → is_empty (ids_of rows) ≡ is_empty rows
ids_empty [] = refl
ids_empty (r ∷ rs) = refl

child_is : (rows : List Row) (id : ItemId) → not (is_empty (child_rows rows id)) ≡ has_child (map row_value rows) id
child_is [] id = refl
child_is (r ∷ rs) id = by (eqb r.parent.0 id.0) (child_is rs id) where
  by : (b : Bool) → not (is_empty (child_rows rs id)) ≡ has_child (map row_value rs) id → not (is_empty (cond b (r ∷ child_rows rs id) (child_rows rs id))) ≡ (b || has_child (map row_value rs) id)
  by true h = refl
  by false h = h

none_in : (ids : List ItemId) (n : ℕ) → n ≡ length ids → (n == 0) ≡ is_empty ids
none_in [] n h = ap (λ (k : ℕ). k == 0) h
none_in (id ∷ ids) n h = ne_eqb n 0 (λ e. absurd (omega (arith, h, e)))

pub children_are : (rows : List Row) (id : ItemId) (ids : List ItemId) (n : ℕ) (none : Bool) → ids ≡ ids_of (rows_by_name (child_rows rows id)) → n ≡ length ids → none ≡ (n == 0) → not none ≡ has_child (map row_value rows) id
children_are rows id ids n none is count e =
    ap not (e ∙ none_in ids n count ∙ ap is_empty is ∙ ids_empty (rows_by_name (child_rows rows id)) ∙ as_empty _ (child_rows rows id)) ∙ child_is rows id
