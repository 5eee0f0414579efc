-- Rows noted as they were at the last point.
use Rattle.std.proofs.Common.{◌≡◌, ℕ, ◌≤◌, ◌==◌, Bool, true, false, cond, eqb, ltb, List, [], ◌∷◌, refl, sym, ◌∙◌, ap, subst, Option, Some, None}
use Rattle.std.specs.Option.{is_some}
use Rattle.std.specs.Prelude.{find, OnOk, Result, Ok, Err}
use Rattle.std.proofs.lemmas.Bool.{cond-true, cond-false, eq-eqb, eqb-true, le-ltb, ne_eqb, true≢false}
use Rattle.std.proofs.lemmas.Option.{none-some, same_Some}
use Rattle.cf_base.specs.declared.ids.ItemId.{ItemId}
use Rattle.cf_volume_points.proofs.RowChanges.{found_with}
use Rattle.cf_volume_points.specs.Known.{or_now, row_then}
use Rattle.cf_table.specs.Applied.{IsSpellable}
use Rattle.cf_table.specs.Tables.{AreTableRows, RisesFrom, row_of, with_row}
use Rattle.cf_table.specs.declared.rows.Row.{Row}
use Rattle.cf_volume_changes.specs.Notes.{Notes}

pub found_spellable : (rows : List Row) (id : ItemId) (r : Row) → AreTableRows rows → row_of rows id ≡ Some r → IsSpellable r
found_spellable [] id r h e = absurd (none-some r e)
found_spellable (x ∷ xs) id r h e = by (eqb x.id.0 id.0) e (found_spellable xs id r h.1)
  where
    by : (t : Bool) → cond t (Some x) (row_of xs id) ≡ Some r → (row_of xs id ≡ Some r → IsSpellable r) → IsSpellable r
    by true e f = subst IsSpellable (same_Some x r e) h.0.spellable
    by false e f = f e

-- the item is a new one
pub noted_new : (id next : ItemId) (rows old : List Row) → next.0 ≤ id.0 → Notes id next rows old old
noted_new id next rows old high = record {
  others = λ key now apart. refl;
  here = λ now none. cond-false (ltb id.0 next.0) _ _ (le-ltb id.0 next.0 high) ∙ sym (cond-false (ltb id.0 next.0) _ _ (le-ltb id.0 next.0 high));
}

-- it is noted already
pub noted_before : (id next : ItemId) (rows old : List Row) → is_some (row_of old id) ≡ true → Notes id next rows old old
noted_before id next rows old some = record { others = λ key now apart. refl; here = λ now none. ap (λ (o : Option Row). cond (ltb id.0 next.0) o None) (by (row_of old id) some now (row_of rows id)) }
  where
    by : (o : Option Row) → is_some o ≡ true → (a b : Option Row) → or_now o a ≡ or_now o b
    by None e a b = absurd (true≢false (sym e))
    by (Some r) e a b = refl

-- it is not there
pub noted_none : (id next : ItemId) (rows old : List Row) → row_of rows id ≡ None → Notes id next rows old old
noted_none id next rows old gone = record { others = λ key now apart. refl; here = λ now none. ap (λ (o : Option Row). row_then id old next o) (none gone ∙ sym gone) }

pub noted_now : (id next : ItemId) (rows old new : List Row) (r p : Row) → RisesFrom 0 old → row_of rows id ≡ Some r → p ≡ r → r.id.0 ≡ id.0 → row_of old id ≡ None → new ≡ with_row p old → Notes id next rows old new
noted_now id next rows old new r p rises found same at none is = record {
  others = λ key now apart. ap (λ (o : Option Row). cond (ltb key.0 next.0) (or_now o now) None)
      (ap (λ (l : List Row). row_of l key) is ∙ found_with p 0 old key rises ∙ cond-false (eqb p.id.0 key.0) (Some p) (row_of old key) (ne_eqb p.id.0 key.0 (λ e. apart (sym e ∙ ap (λ (x : Row). x.id.0) same ∙ at))));
  here = λ now gone.
      ap (λ (o : Option Row). cond (ltb id.0 next.0) (or_now o now) None) (ap (λ (l : List Row). row_of l id) is ∙ found_with p 0 old id rises ∙ cond-true (eqb p.id.0 id.0) (Some p) (row_of old id) (eq-eqb p.id.0 id.0 (ap (λ (x : Row). x.id.0) same ∙ at)))
      ∙ sym (ap (λ (o : Option Row). cond (ltb id.0 next.0) (or_now o (row_of rows id)) None) none ∙ ap (λ (o : Option Row). cond (ltb id.0 next.0) o None) (found ∙ ap (λ (x : Row). Some x) (sym same)));
}

pub found_id : (rows : List Row) (id : ItemId) (r : Row) → row_of rows id ≡ Some r → r.id.0 ≡ id.0
found_id [] id r e = absurd (none-some r e)
found_id (x ∷ xs) id r e = by (eqb x.id.0 id.0) refl e (found_id xs id r)
  where
    by : (t : Bool) → eqb x.id.0 id.0 ≡ t → cond t (Some x) (row_of xs id) ≡ Some r → (row_of xs id ≡ Some r → r.id.0 ≡ id.0) → r.id.0 ≡ id.0
    by true h e f = ap (λ (y : Row). y.id.0) (sym (same_Some x r e)) ∙ eqb-true x.id.0 id.0 h
    by false h e f = f e

pub found_by_its_id : (rows : List Row) (id : ItemId) (r : Row) → row_of rows id ≡ Some r → row_of rows r.id ≡ Some r
found_by_its_id rows id r e = ap (λ (n : ℕ). find (λ (x : Row). x.id.0 == n) rows) (found_id rows id r e) ∙ e

pub is_none : {A : Type 0} (o : Option A) → is_some o ≡ false → o ≡ None
is_none {A} None e = refl
is_none {A} (Some x) e = absurd (true≢false e)

pub on_ok_map : {T E P Q : Type 0} (r : Result T E) → (P → Q) → OnOk r P → OnOk r Q
on_ok_map (Ok t) f h = f h
on_ok_map (Err e) f h = h
