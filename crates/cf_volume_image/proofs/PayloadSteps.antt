-- What a payload takes from the contents, and what it makes of them.
use Rattle.std.proofs.Common.{◌≡◌, ℕ, ◌+◌, ◌<◌, Bool, true, false, ◌||◌, ◌&&◌, not, cond, List, [], ◌∷◌, refl, sym, ap, ◌∙◌, arith, eqb, ltb, inl, inr}
use Rattle.std.proofs.lemmas.Bool.{cases_lt, eq-eqb, le-ltb, lt-ltb, ne_eqb}
use Rattle.std.proofs.lemmas.Bool.Decides.{nat_tests}
use Rattle.std.specs.Prelude.{filter, map}
use Rattle.cf_base.specs.declared.answers.AuxRecord.{AuxRecord}
use Rattle.cf_base.specs.declared.ids.ItemId.{ItemId}
use Rattle.cf_model.specs.Formats.{is_key_removed, is_removed, without_record}
use Rattle.cf_model.specs.Formats as model
use Rattle.cf_model.specs.Rows.{Row}
use Rattle.cf_model.specs.Words.{put_in, same}
use Rattle.cf_table.specs.Spelling.{row_value}
use Rattle.cf_table.specs.Tables.{RisesFrom, with_row, without_row}
use Rattle.cf_table.specs.declared.rows.Row.{Row as TableRow}
use Rattle.cf_volume_image.specs.States.{without_records, without_rows}
use Rattle.cf_volume_image.proofs.Keys.{same_back}

-- removals

filter_twice : {A : Type 0} (f g h : A → Bool) → ((x : A) → h x ≡ (f x && g x)) → (xs : List A) → filter g (filter f xs) ≡ filter h xs
filter_twice f g h both [] = refl
filter_twice {A} f g h both (x ∷ xs) = by (f x) (g x) (h x) refl (both x) (filter_twice f g h both xs) where
  by : (a b c : Bool) → g x ≡ b → c ≡ (a && b) → filter g (filter f xs) ≡ filter h xs → filter g (cond a (x ∷ filter f xs) (filter f xs)) ≡ cond c (x ∷ filter h xs) (filter h xs)
  by true true c p q so = rw p (ap (λ v. x ∷ v) so ∙ sym (ap (λ b. cond b (x ∷ filter h xs) (filter h xs)) q))
  by true false c p q so = rw p (so ∙ sym (ap (λ b. cond b (x ∷ filter h xs) (filter h xs)) q))
  by false b c p q so = so ∙ sym (ap (λ b. cond b (x ∷ filter h xs) (filter h xs)) q)

not_either : (a b c : Bool) → a ≡ c → not (a || b) ≡ (not c && not b)
not_either true b c h = ap (λ v. not v && not b) h
not_either false b c h = ap (λ v. not v && not b) h

flipped : (x y : ℕ) → eqb x y ≡ eqb y x
flipped x y = grind (arith, nat_tests)

rows_step : (id : ItemId) (ids : List ItemId) (xs : List Row) → without_rows ids (model.without_row id xs) ≡ without_rows (id ∷ ids) xs
rows_step id ids xs =
    filter_twice (λ r. not (eqb r.id.0 id.0)) (λ r. not (is_removed ids r)) (λ r. not (is_removed (id ∷ ids) r))
    (λ r. not_either (eqb id.0 r.id.0) (is_removed ids r) (eqb r.id.0 id.0) (flipped id.0 r.id.0)) xs

map_without : (id : ItemId) (rows : List TableRow) → map row_value (without_row id rows) ≡ model.without_row id (map row_value rows)
map_without id [] = refl
map_without id (r ∷ rs) = by (eqb r.id.0 id.0) (map_without id rs) where
  by : (b : Bool) → map row_value (without_row id rs) ≡ model.without_row id (map row_value rs) →
      map row_value (cond (not b) (r ∷ without_row id rs) (without_row id rs)) ≡ cond (not b) (row_value r ∷ model.without_row id (map row_value rs)) (model.without_row id (map row_value rs))
  by true h = h
  by false h = ap (λ v. row_value r ∷ v) h

pub rows_removed : (id : ItemId) (ids rest : List ItemId) (rows new : List TableRow) (all : List Row) → ids ≡ id ∷ rest → new ≡ without_row id rows → without_rows ids (map row_value rows) ≡ all → without_rows rest (map row_value new) ≡ all
rows_removed id ids rest rows new all is removes so =
    ap (λ l. without_rows rest (map row_value l)) removes ∙ ap (without_rows rest) (map_without id rows) ∙ rows_step id rest (map row_value rows) ∙ ap (λ l. without_rows l (map row_value rows)) (sym is) ∙ so

pub records_removed : (key : List ℕ) (keys rest : List (List ℕ)) (records new all : List AuxRecord) → keys ≡ key ∷ rest → new ≡ without_record key records → without_records keys records ≡ all → without_records rest new ≡ all
records_removed key keys rest records new all is removes so =
    ap (without_records rest) removes
    ∙ filter_twice (λ r. not (same r.key key)) (λ r. not (is_key_removed rest r)) (λ r. not (is_key_removed (key ∷ rest) r)) (λ r. not_either (same key r.key) (is_key_removed rest r) (same r.key key) (same_back key r.key)) records
    ∙ ap (λ l. without_records l records) (sym is) ∙ so

-- puts

all_stay : (id : ItemId) (low : ℕ) (rows : List TableRow) → id.0 < low → RisesFrom low rows → model.without_row id (map row_value rows) ≡ map row_value rows
all_stay id low [] lt h = refl
all_stay id low (r ∷ rs) lt h = rw (ne_eqb r.id.0 id.0 (λ e. absurd (omega (arith, e, h.0, lt)))) (ap (λ v. row_value r ∷ v) (all_stay id (r.id.0 + 1) rs (omega (arith, lt, h.0)) h.1))

goes_first : (row : TableRow) (low : ℕ) (rows : List TableRow) → row.id.0 < low → RisesFrom low rows → put_in (λ x y. ltb x.id.0 y.id.0) (row_value row) (map row_value rows) ≡ row_value row ∷ map row_value rows
goes_first row low [] lt h = refl
goes_first row low (r ∷ rs) lt h = rw (le-ltb r.id.0 row.id.0 (omega (arith, lt, h.0))) refl

pub map_with : (low : ℕ) (row : TableRow) (rows : List TableRow) → RisesFrom low rows → map row_value (with_row row rows) ≡ model.with_row (row_value row) (map row_value rows)
map_with low row [] h = refl
map_with low row (r ∷ rs) h = elim (cases_lt r.id.0 row.id.0) [
  | inl less ↦ rw (lt-ltb r.id.0 row.id.0 less) (rw (ne_eqb r.id.0 row.id.0 (λ e. absurd (omega (arith, e, less)))) (rw (lt-ltb r.id.0 row.id.0 less) (ap (λ v. row_value r ∷ v) (map_with (r.id.0 + 1) row rs h.1))))
  | inr more ↦ elim (cases_lt row.id.0 r.id.0) [
    | inl above ↦
        rw (le-ltb r.id.0 row.id.0 more) (rw (ne_eqb r.id.0 row.id.0 (λ e. absurd (omega (arith, e, above))))
        (sym (ap (λ v. put_in (λ x y. ltb x.id.0 y.id.0) (row_value row) (row_value r ∷ v)) (all_stay row.id (r.id.0 + 1) rs (omega (arith, above)) h.1) ∙ goes_first row r.id.0 (r ∷ rs) above (omega arith, h.1))))
    | inr same ↦
        rw (le-ltb r.id.0 row.id.0 more) (rw (eq-eqb r.id.0 row.id.0 (omega (arith, same, more)))
        (sym (ap (put_in (λ x y. ltb x.id.0 y.id.0) (row_value row)) (all_stay row.id (r.id.0 + 1) rs (omega (arith, same, more)) h.1) ∙ goes_first row (r.id.0 + 1) rs (omega (arith, same, more)) h.1)))
  ]
]

-- steps of loops

pub none_removed : (xs : List Row) → without_rows [] xs ≡ xs
none_removed [] = refl
none_removed (x ∷ xs) = ap (λ v. x ∷ v) (none_removed xs)

pub no_records_removed : (xs : List AuxRecord) → without_records [] xs ≡ xs
no_records_removed [] = refl
no_records_removed (x ∷ xs) = ap (λ v. x ∷ v) (no_records_removed xs)

pub row_added : (more rest : List TableRow) (row : TableRow) (rows new : List TableRow) (all : List Row) → more ≡ row ∷ rest → new ≡ with_row row rows → RisesFrom 0 rows →
    model.with_rows (map row_value more) (map row_value rows) ≡ all → model.with_rows (map row_value rest) (map row_value new) ≡ all
row_added more rest row rows new all is puts rises so =
    ap (λ l. model.with_rows (map row_value rest) (map row_value l)) puts
    ∙ ap (model.with_rows (map row_value rest)) (map_with 0 row rows rises)
    ∙ ap (λ l. model.with_rows (map row_value l) (map row_value rows)) (sym is) ∙ so

pub record_added : (more rest : List AuxRecord) (r copy : AuxRecord) (records new all : List AuxRecord) → more ≡ r ∷ rest → copy ≡ r → new ≡ model.with_record copy records →
    model.with_records more records ≡ all → model.with_records rest new ≡ all
record_added more rest r copy records new all is copied puts so =
    ap (model.with_records rest) (puts ∙ ap (λ x. model.with_record x records) copied) ∙ ap (λ l. model.with_records l records) (sym is) ∙ so
