-- A row of the table is the one of the definitions.
use Rattle.std.proofs.Common.{◌≡◌, Bool, Bor, true, false, cond, not, List, [], ◌∷◌, refl, sym, ap, ◌∙◌, eqb, Option, Some, None}
use Rattle.std.specs.Prelude.{is_some, map, option_copied, option_map}
use Rattle.cf_base.specs.declared.ids.ItemId.{ItemId}
use Rattle.cf_model.specs.Rows as model
use Rattle.cf_model.specs.Words.{says}
use Rattle.cf_volume_image.specs.Contents.{row_at}
use Rattle.cf_table.specs.Spelling.{row_value}
use Rattle.cf_table.specs.Tables.{row_of}
use Rattle.cf_table.specs.declared.rows.Row.{Row}

pub row_at_is : (rows : List Row) (id : ItemId) → row_at (map row_value rows) id ≡ option_map row_value (row_of rows id)
row_at_is [] id = refl
row_at_is (r ∷ rs) id = by (eqb r.id.0 id.0) (row_at_is rs id) where
  by : (b : Bool) → row_at (map row_value rs) id ≡ option_map row_value (row_of rs id) → cond b (Some (row_value r)) (row_at (map row_value rs) id) ≡ option_map row_value (cond b (Some r) (row_of rs id))
  by true h = refl
  by false h = h

pub at_none : (rows : List Row) (id : ItemId) → None ≡ row_of rows id → row_at (map row_value rows) id ≡ None
at_none rows id h = row_at_is rows id ∙ ap (option_map row_value) (sym h)

pub at_some : (rows : List Row) (id : ItemId) (r : Row) → Some r ≡ row_of rows id → row_at (map row_value rows) id ≡ Some (row_value r)
at_some rows id r h = row_at_is rows id ∙ ap (option_map row_value) (sym h)

pub none_says : (rows : List Row) (id : ItemId) (f : model.Row → Bool) → None ≡ row_of rows id → false ≡ says f (row_at (map row_value rows) id)
none_says rows id f h = sym (ap (says f) (at_none rows id h))

pub some_says : (rows : List Row) (id : ItemId) (f : model.Row → Bool) (r : Row) → Some r ≡ row_of rows id → f (row_value r) ≡ says f (row_at (map row_value rows) id)
some_says rows id f r h = sym (ap (says f) (at_some rows id r h))

pub lacks_row : (found : Option (Bor Row)) (rows : List Row) (id : ItemId) (lacks : Bool) → is_some found ≡ not lacks → option_copied found ≡ row_of rows id → lacks ≡ not (is_some (row_at (map row_value rows) id))
lacks_row found rows id lacks h e = by found lacks h ∙ ap (λ o. not (is_some o)) (ap (option_map row_value) e ∙ sym (row_at_is rows id)) where
  by : (found : Option (Bor Row)) (lacks : Bool) → is_some found ≡ not lacks → lacks ≡ not (is_some (option_map row_value (option_copied found)))
  by None true h = refl
  by None false h = let z : false ≡ true = h in cc
  by (Some x) true h = let z : true ≡ false = h in cc
  by (Some x) false h = refl
