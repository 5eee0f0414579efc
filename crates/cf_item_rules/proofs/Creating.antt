-- The plan of a new item is that of the rows.
use Rattle.std.proofs.Common.{◌≡◌, ℕ, Bool, true, false, cond, List, [], ◌∷◌, refl, sym, ap, ◌∙◌, Some, None, Option, Ok, Err}
use Rattle.std.specs.Prelude.{find, is_some}
use Rattle.cf_base.specs.declared.changes.Change.{Change}
use Rattle.cf_base.specs.declared.codes.Code.{Code}
use Rattle.cf_base.specs.declared.codes.Code.TheVariants as code
use Rattle.cf_base.specs.declared.ids.ItemId.{ItemId}
use Rattle.cf_base.specs.declared.ids.Usn.{Usn}
use Rattle.cf_base.specs.declared.policies.Policy.{Policy}
use Rattle.cf_model.specs.Items.{Item}
use Rattle.cf_model.specs.LookUp.{child_of, is_child_named}
use Rattle.cf_model.specs.Plans.{make_and_mark, plan_create, planned}
use Rattle.cf_model.specs.Words.{first_of}
use Rattle.cf_table.specs.Means.{Means}
use Rattle.cf_table.specs.Tables.{MeansAll, is_child_row}
use Rattle.cf_table.specs.declared.rows.Row.{Row}
use Rattle.cf_item_rules.specs.PlaceholderPlans.{identity_made, kind_made, mark_made, meant, size_made}
use Rattle.cf_item_rules.specs.Refusals.{create_tests, creation_tests}
use Rattle.cf_item_rules.specs.declared.creations.Creation.{Creation}
use Rattle.cf_item_rules.specs.declared.creations.Creation.TheVariants.{File, Dir, Placeholder, PlaceholderDir}

taken_alike : (f : Row → Bool) (g : Item → Bool) → ((r : Row) (i : Item) → Means r i → f r ≡ g i) → (rows : List Row) (items : List Item) → MeansAll rows items → is_some (find f rows) ≡ is_some (find g items)
taken_alike f g same [] [] m = refl
taken_alike f g same [] (i ∷ is) m = absurd m
taken_alike f g same (r ∷ rs) [] m = absurd m
taken_alike f g same (r ∷ rs) (i ∷ is) m = two (f r) (g i) (same r i m.0) (taken_alike f g same rs is m.1) where
  two : (b c : Bool) → b ≡ c → is_some (find f rs) ≡ is_some (find g is) → is_some (cond b (Some r) (find f rs)) ≡ is_some (cond c (Some i) (find g is))
  two true true e rest = refl
  two true false e rest = let z : true ≡ false = e in absurd cc
  two false true e rest = let z : false ≡ true = e in absurd cc
  two false false e rest = rest

taken_is : (rows : List Row) (items : List Item) (parent : ItemId) (name : List ℕ) → MeansAll rows items → is_some (find (is_child_row parent name) rows) ≡ is_some (child_of items parent name)
taken_is rows items parent name m = taken_alike (is_child_row parent name) (is_child_named parent name) (λ r i h k. is_child_named parent name (record i { parent = h.parent k; name = h.name k })) rows items m

pub create_is : (rows : List Row) (items : List Item) (p : Policy) (item : ItemId) (next : Usn) (parent : ItemId) (name : List ℕ) (what : Creation) → MeansAll rows items →
    plan_create items p item next parent name (meant what) ≡ planned (first_of (create_tests rows p parent name what)) (make_and_mark item next parent name (kind_made p what) (size_made what) (identity_made what) (mark_made what))
create_is rows items p item next parent name what m = cases what ∙ ap (λ b. planned (first_of ((b, code.Exists) ∷ creation_tests p what)) changes) (sym (taken_is rows items parent name m)) where
  changes : List Change
  changes = make_and_mark item next parent name (kind_made p what) (size_made what) (identity_made what) (mark_made what)

  cases : (w : Creation) → plan_create items p item next parent name (meant w)
      ≡ planned (first_of ((is_some (child_of items parent name), code.Exists) ∷ creation_tests p w)) (make_and_mark item next parent name (kind_made p w) (size_made w) (identity_made w) (mark_made w))
  cases File = refl
  cases Dir = refl
  cases (Placeholder size identity mark) = refl
  cases (PlaceholderDir identity mark) = refl

pub refused : (tests : Option Code) (cs : List Change) (c : Code) → tests ≡ Some c → planned tests cs ≡ Err c
refused tests cs c e = ap (λ t. planned t cs) e

pub goes_on : (tests : Option Code) (cs ds : List Change) → tests ≡ None → cs ≡ ds → planned tests cs ≡ Ok ds
goes_on tests cs ds e f = λ k. planned (e k) (f k)
