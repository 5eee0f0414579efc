-- Whether a directory has a child, by its rows.
use Rattle.std.proofs.Common.{◌≡◌, Bool, true, false, cond, List, [], ◌∷◌, refl, ◌∙◌, ap}
use Rattle.std.specs.Prelude.{map}
use Rattle.cf_base.specs.declared.ids.ItemId.{ItemId}
use Rattle.cf_model.specs.Items.{Item}
use Rattle.cf_model.specs.LookUp.{children}
use Rattle.cf_model.specs.Words.{comes_before, is_empty, put_in, sorted}
use Rattle.cf_table.specs.Tables.{MeansAll, child_rows, ids_of, rows_by_name}
use Rattle.cf_table.specs.declared.rows.Row.{Row}
use Rattle.cf_table.proofs.ChildrenOf.{children_mean}

put_some : {A : Type 0} (before : A → A → Bool) (x : A) (ys : List A) → is_empty (put_in before x ys) ≡ false
put_some before x [] = refl
put_some before x (y ∷ ys) = two (before y x) where
  two : (b : Bool) → is_empty (cond b (y ∷ put_in before x ys) (x ∷ y ∷ ys)) ≡ false
  two true = refl
  two false = refl

empty_sorted : {A : Type 0} (before : A → A → Bool) (xs : List A) → is_empty (sorted before xs) ≡ is_empty xs
empty_sorted before [] = refl
empty_sorted before (x ∷ xs) = put_some before x (sorted before xs)

empty_map : {A B : Type 0} (f : A → B) (xs : List A) → is_empty (map f xs) ≡ is_empty xs
empty_map f [] = refl
empty_map f (x ∷ xs) = refl

pub none_below : (rows : List Row) (items : List Item) (id : ItemId) → MeansAll rows items → is_empty (ids_of (rows_by_name (child_rows rows id))) ≡ is_empty (children items id)
none_below rows items id m =
    ap (λ (l : List ItemId). is_empty l) (children_mean rows items id m)
    ∙ empty_map (λ (i : Item). i.id) (sorted (λ i j. comes_before i.name j.name) (children items id)) ∙ empty_sorted (λ (i j : Item). comes_before i.name j.name) (children items id)
