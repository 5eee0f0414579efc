-- The way up from an item, and the first row of a name.
use Rattle.std.proofs.Common.{◌≡◌, ◌≢◌, ℕ, suc, Bool, true, false, ◌||◌, cond, List, [], ◌∷◌, refl, sym, ap, subst, ◌∙◌, eqb, Option, Some, None}
use Rattle.std.proofs.lemmas.Bool.{eq-eqb, ne_eqb}
use Rattle.std.specs.Prelude.{find, map}
use Rattle.cf_base.specs.declared.ids.ItemId.{ItemId}
use Rattle.cf_model.specs.Rows as model
use Rattle.cf_model.specs.Words.{says}
use Rattle.cf_scrub.specs.Ways.{above, climbs, has_id, is_first, is_named}
use Rattle.cf_table.specs.Spelling.{row_value}
use Rattle.cf_table.specs.Tables.{id_of, is_child_row}
use Rattle.cf_table.specs.declared.rows.Row.{Row}
use Rattle.cf_volume_image.specs.Trees as tree

says_none : {A : Type 0} (f : A → Bool) (o : Option A) → None ≡ o → says f o ≡ false
says_none f o h = ap (says f) (sym h)

says_some : {A : Type 0} (f : A → Bool) (o : Option A) (x : A) → Some x ≡ o → says f o ≡ f x
says_some f o x h = ap (says f) (sym h)

pub way_lost : (rows : List model.Row) (n m : ℕ) (id : ItemId) → n ≡ suc m → None ≡ above rows id → climbs rows n id ≡ false
unfolding climbs
way_lost rows n m id is e = rw is (says_none (λ parent. eqb id.0 1 || climbs rows m parent) (above rows id) e)

pub way_ends : (rows : List model.Row) (n m : ℕ) (id p : ItemId) → n ≡ suc m → id.0 ≡ 1 → Some p ≡ above rows id → climbs rows n id ≡ true
unfolding climbs
way_ends rows n m id p is h e = rw is (says_some (λ parent. eqb id.0 1 || climbs rows m parent) (above rows id) p e ∙ ap (λ b. b || climbs rows m p) (eq-eqb id.0 1 h))

pub way_on : (rows : List model.Row) (n m : ℕ) (id p : ItemId) → n ≡ suc m → id.0 ≢ 1 → Some p ≡ above rows id → climbs rows n id ≡ climbs rows m p
unfolding climbs
way_on rows n m id p is h e = rw is (says_some (λ parent. eqb id.0 1 || climbs rows m parent) (above rows id) p e ∙ ap (λ b. b || climbs rows m p) (ne_eqb id.0 1 h))

pub no_steps : (rows : List model.Row) (id : ItemId) → climbs rows 0 id ≡ false
unfolding climbs
no_steps rows id = refl

pub first_is : (rows : List Row) (parent id : ItemId) (name : List ℕ) → has_id id (find (is_named parent name) (map row_value rows)) ≡ tree.has_id id (id_of (find (is_child_row parent name) rows))
first_is [] parent id name = refl
first_is (r ∷ rs) parent id name = by (is_child_row parent name r) (first_is rs parent id name) where
  by : (b : Bool) → has_id id (find (is_named parent name) (map row_value rs)) ≡ tree.has_id id (id_of (find (is_child_row parent name) rs))
      → has_id id (cond b (Some (row_value r)) (find (is_named parent name) (map row_value rs))) ≡ tree.has_id id (id_of (cond b (Some r) (find (is_child_row parent name) rs)))
  by true h = refl
  by false h = h

found_with : (rows : List Row) (r : Row) (name : List ℕ) (o : Option ItemId) → name ≡ r.name → o ≡ id_of (find (is_child_row r.parent name) rows) → is_first (map row_value rows) (row_value r) ≡ tree.has_id r.id o
found_with rows r name o same h = first_is rows r.parent r.id r.name ∙ ap (tree.has_id r.id) (sym (subst (λ (n : List ℕ). o ≡ id_of (find (is_child_row r.parent n) rows)) same h))

pub none_first : (rows : List Row) (r : Row) (name : List ℕ) → name ≡ r.name → None ≡ id_of (find (is_child_row r.parent name) rows) → false ≡ is_first (map row_value rows) (row_value r)
none_first rows r name same h = sym (found_with rows r name None same h)

pub one_first : (rows : List Row) (r : Row) (name : List ℕ) (id : ItemId) → name ≡ r.name → Some id ≡ id_of (find (is_child_row r.parent name) rows) → eqb id.0 r.id.0 ≡ is_first (map row_value rows) (row_value r)
one_first rows r name id same h = sym (found_with rows r name (Some id) same h)
