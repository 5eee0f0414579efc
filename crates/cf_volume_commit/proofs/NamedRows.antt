-- A payload names each row that differs, and the rows that it has are those.
use Rattle.std.proofs.Common.{◌≡◌, ℕ, ◌+◌, ◌<◌, ◌≤◌, Bool, true, false, ◌||◌, ◌&&◌, not, cond, eqb, ltb, List, [], ◌∷◌, map, Option, Some, None, refl, sym, ◌∙◌, ap, arith}
use Rattle.std.specs.Prelude.{All, filter, is_some, option_map}
use Rattle.std.proofs.lemmas.Bool.{cond-true, cond-false, eq-eqb, ne_eqb}
use Rattle.std.proofs.lemmas.List.Elements.{All-head, All-tail, All-nil, All-cons, All-weaker}
use Rattle.cf_base.specs.declared.ids.ItemId.{ItemId}
use Rattle.cf_volume_commit.specs.Differing.{IsThen, changed_rows, is_row_changed, removed_rows}
use Rattle.cf_volume_points.specs.declared.earlier.Earlier.{Earlier}
use Rattle.cf_volume_image.proofs.RowsLeft.{Rises, rises_is, rows_left}
use Rattle.cf_volume_image.specs.Contents.{in_front, row_at, rows_at}
use Rattle.cf_volume_image.specs.Enough.{has_id, row_left}
use Rattle.cf_volume_image.specs.States.{without_rows}
use Rattle.cf_volume_image.specs.declared.contents.Contents.{Contents}
use Rattle.cf_model.specs.Formats.{Image, with_rows}
use Rattle.cf_model.specs.Rows as model
use Rattle.cf_volume_points.proofs.KeptSound.{rows_found}
use Rattle.cf_volume_points.proofs.Lookups.{has_filtered}
use Rattle.cf_volume_points.specs.Known.{RowsRise, or_now}
use Rattle.cf_table.specs.Spelling.{row_value}
use Rattle.cf_table.specs.Tables.{RisesFrom, row_of}
use Rattle.cf_table.specs.declared.rows.Row.{Row}

pub rise_so : (low : ℕ) (rows : List model.Row) → RowsRise low rows → Rises low rows
rise_so low [] h = tt
rise_so low (r ∷ rs) h = (h.0, rise_so (r.id.0 + 1) rs h.1)

-- what the row is with the payload, by what it was and is
picked : (now then : Option Row) (t : Bool) → cond ((is_some now && (not t || is_some then)) && is_some (option_map row_value now)) (option_map row_value now)
    (cond (is_some then && (t && not (is_some now))) None (option_map row_value (cond t (or_now then now) None))) ≡ option_map row_value now
picked None None true = refl
picked None None false = refl
picked None (Some r) true = refl
picked None (Some r) false = refl
picked (Some n) None true = refl
picked (Some n) None false = refl
picked (Some n) (Some r) true = refl
picked (Some n) (Some r) false = refl

names : (then : Earlier) (c : Contents) (i : Image) → IsThen then c i → (id : ItemId) → row_left i.rows (map row_value c.rows.rows) (removed_rows then c.rows.rows) (changed_rows then c.rows.rows) id ≡ row_at (map row_value c.rows.rows) id
names then c i is id =
    let found : row_at (map row_value c.rows.rows) id ≡ option_map row_value (row_of c.rows.rows id) = rows_found c.rows.rows id in
    let changed : has_id (changed_rows then c.rows.rows) id ≡ (is_some (row_of c.rows.rows id) && (not (ltb id.0 then.next.0) || is_some (row_of then.rows.rows id)))
    = has_filtered (λ (k : ItemId). not (ltb k.0 then.next.0) || is_some (row_of then.rows.rows k)) c.rows.rows id in
    let removed : has_id (removed_rows then c.rows.rows) id ≡ (is_some (row_of then.rows.rows id) && (ltb id.0 then.next.0 && not (is_some (row_of c.rows.rows id))))
    = has_filtered (λ (k : ItemId). ltb k.0 then.next.0 && not (is_some (row_of c.rows.rows k))) then.rows.rows id in
    (λ k. cond (changed k && is_some (found k)) (found k) (cond (removed k) None (is.rows id k)))
    ∙ picked (row_of c.rows.rows id) (row_of then.rows.rows id) (ltb id.0 then.next.0) ∙ sym found

pub rows_after : (then : Earlier) (c : Contents) (i : Image) → RisesFrom 0 c.rows.rows → IsThen then c i
    → with_rows (rows_at (map row_value c.rows.rows) (changed_rows then c.rows.rows)) (without_rows (removed_rows then c.rows.rows) i.rows) ≡ map row_value c.rows.rows
rows_after then c i rise is = rows_left i.rows (map row_value c.rows.rows) (removed_rows then c.rows.rows) (changed_rows then c.rows.rows) (rise_so 0 i.rows is.rise) (rises_is 0 c.rows.rows rise) (names then c i is)

-- the rows that are named are those that pass

below : (low : ℕ) (rows : List Row) (id : ItemId) → RisesFrom low rows → id.0 < low → row_of rows id ≡ None
below low [] id h lt = refl
below low (r ∷ rs) id h lt = cond-false (eqb r.id.0 id.0) _ _ (ne_eqb r.id.0 id.0 (λ e. omega (arith, e, h.0, lt))) ∙ below (r.id.0 + 1) rs id h.1 (omega (arith, h.0, lt))

abbrev Found : List Row → Row → Type 0
Found rows r = row_of rows r.id ≡ Some r

from_low : (low : ℕ) (rows : List Row) → RisesFrom low rows → All (λ (r : Row). low ≤ r.id.0) rows
from_low low [] h = All-nil (λ (r : Row). low ≤ r.id.0)
from_low low (x ∷ xs) h = All-cons (λ (r : Row). low ≤ r.id.0) x xs h.0 (All-weaker (λ (r : Row). x.id.0 + 1 ≤ r.id.0) (λ (r : Row). low ≤ r.id.0) (λ r le. omega (arith, le, h.0)) xs (from_low (x.id.0 + 1) xs h.1))

both_all : {A : Type 0} (P Q : A → Type 0) (xs : List A) → All P xs → All Q xs → All (λ (x : A). P x × Q x) xs
both_all {A} P Q [] p q = All-nil (λ (x : A). P x × Q x)
both_all {A} P Q (x ∷ xs) p q = All-cons (λ (x : A). P x × Q x) x xs (All-head P x xs p, All-head Q x xs q) (both_all P Q xs (All-tail P x xs p) (All-tail Q x xs q))

all_found : (low : ℕ) (rows : List Row) → RisesFrom low rows → All (Found rows) rows
all_found low [] h = All-nil (Found [])
all_found low (x ∷ xs) h =
    All-cons (Found (x ∷ xs)) x xs (cond-true (eqb x.id.0 x.id.0) _ _ (eq-eqb x.id.0 x.id.0 refl))
    (All-weaker (λ (r : Row). (x.id.0 + 1 ≤ r.id.0) × Found xs r) (Found (x ∷ xs)) (λ r f. cond-false (eqb x.id.0 r.id.0) _ _ (ne_eqb x.id.0 r.id.0 (λ e. omega (arith, e, f.0))) ∙ f.1) xs
    (both_all (λ (r : Row). x.id.0 + 1 ≤ r.id.0) (Found xs) xs (from_low (x.id.0 + 1) xs h.1) (all_found (x.id.0 + 1) xs h.1)))

rows_of_those : (rows : List Row) (p : Row → Bool) (xs : List Row) → All (Found rows) xs → rows_at (map row_value rows) (map (λ (r : Row). r.id) (filter p xs)) ≡ map row_value (filter p xs)
rows_of_those rows p [] h = refl
rows_of_those rows p (x ∷ xs) h = by (p x) (rows_of_those rows p xs (All-tail (Found rows) x xs h))
  where
    by : (t : Bool) → rows_at (map row_value rows) (map (λ (r : Row). r.id) (filter p xs)) ≡ map row_value (filter p xs)
        → rows_at (map row_value rows) (map (λ (r : Row). r.id) (cond t (x ∷ filter p xs) (filter p xs))) ≡ map row_value (cond t (x ∷ filter p xs) (filter p xs))
    by true e =
        ap (λ (o : Option model.Row). in_front o (rows_at (map row_value rows) (map (λ (r : Row). r.id) (filter p xs)))) (rows_found rows x.id ∙ ap (option_map row_value) (All-head (Found rows) x xs h))
        ∙ ap (λ (l : List model.Row). row_value x ∷ l) e
    by false e = e

pub rows_named : (then : Earlier) (rows : List Row) → RisesFrom 0 rows → rows_at (map row_value rows) (changed_rows then rows) ≡ map row_value (filter (is_row_changed then) rows)
rows_named then rows rise = rows_of_those rows (is_row_changed then) rows (all_found 0 rows rise)
