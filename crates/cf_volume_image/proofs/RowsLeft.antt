-- The rows that a payload leaves, row by row.
use Rattle.std.proofs.Common.{◌≡◌, ◌≢◌, ℕ, ◌+◌, ◌<◌, ◌≤◌, Bool, true, false, ◌||◌, ◌&&◌, not, cond, List, [], ◌∷◌, refl, sym, ap, subst, ◌∙◌, arith, eqb, ltb, inl, inr, Option, Some, None}
use Rattle.std.proofs.lemmas.Bool.{cases_Bool, cases_lt, eq-eqb, eqb-true, le-ltb, lt-ltb, ne_eqb}
use Rattle.std.specs.Prelude.{filter, is_some, map}
use Rattle.std.specs.List.{list_any}
use Rattle.cf_base.specs.declared.ids.ItemId.{ItemId}
use Rattle.cf_model.specs.Formats.{is_removed, with_row, with_rows, without_row}
use Rattle.cf_model.specs.Rows.{Row}
use Rattle.cf_model.specs.Words.{put_in}
use Rattle.cf_table.specs.Spelling.{row_value}
use Rattle.cf_table.specs.Tables.{RisesFrom}
use Rattle.cf_table.specs.declared.rows.Row.{Row as TableRow}
use Rattle.cf_volume_image.specs.Contents.{in_front, row_at, rows_at}
use Rattle.cf_volume_image.specs.Enough.{has_id, row_left}
use Rattle.cf_volume_image.specs.States.{without_rows}
use Rattle.cf_volume_image.proofs.Choices.{drop_in, drop_same, keep_other, named_none, named_some, none_or_none, twice}

-- the ids rise, from low on
abbrev pub Rises : ℕ → List Row → Type 0
Rises low [] = Unit {0}
Rises low (r ∷ rs) = (low ≤ r.id.0) × Rises (r.id.0 + 1) rs

pub rises_is : (low : ℕ) (rows : List TableRow) → RisesFrom low rows → Rises low (map row_value rows)
rises_is low [] h = tt
rises_is low (r ∷ rs) h = (h.0, rises_is (r.id.0 + 1) rs h.1)

weaker : (low high : ℕ) (rows : List Row) → low ≤ high → Rises high rows → Rises low rows
weaker low high [] le h = tt
weaker low high (r ∷ rs) le h = (omega (arith, le, h.0), h.1)

not_below : (low : ℕ) (rows : List Row) (id : ItemId) → Rises low rows → id.0 < low → row_at rows id ≡ None
not_below low [] id h lt = refl
not_below low (r ∷ rs) id h lt = rw (ne_eqb r.id.0 id.0 (λ e. absurd (omega (arith, e, h.0, lt)))) (not_below (r.id.0 + 1) rs id h.1 (omega (arith, h.0, lt)))

-- one list has these rows

some_same : (a b : Row) → ◌≡◌ {A = Option Row} (Some a) (Some b) → a ≡ b
some_same a b e = cc

at_first : (r : Row) (rs : List Row) → row_at (r ∷ rs) r.id ≡ Some r
at_first r rs = rw (eq-eqb r.id.0 r.id.0 refl) refl

at_rest : (r : Row) (rs : List Row) (id : ItemId) → r.id.0 ≢ id.0 → row_at (r ∷ rs) id ≡ row_at rs id
at_rest r rs id h = rw (ne_eqb r.id.0 id.0 h) refl

pub one_list : (low : ℕ) (xs ys : List Row) → Rises low xs → Rises low ys → ((id : ItemId) → row_at xs id ≡ row_at ys id) → xs ≡ ys
one_list low [] [] h k e = refl
one_list low [] (y ∷ ys) h k e = let z : None ≡ Some y = e y.id ∙ at_first y ys in cc
one_list low (x ∷ xs) [] h k e = let z : Some x ≡ None = sym (at_first x xs) ∙ e x.id in cc
one_list low (x ∷ xs) (y ∷ ys) h k e = elim (cases_lt x.id.0 y.id.0) [
  | inl less ↦ let z : Some x ≡ None = sym (at_first x xs) ∙ e x.id ∙ not_below y.id.0 (y ∷ ys) x.id (omega arith, k.1) less in cc
  | inr more ↦ elim (cases_lt y.id.0 x.id.0) [
    | inl above ↦ let z : None ≡ Some y = sym (not_below x.id.0 (x ∷ xs) y.id (omega arith, h.1) above) ∙ e y.id ∙ at_first y ys in cc
    | inr le ↦
        let same : x.id.0 ≡ y.id.0 = omega (arith, more, le) in
        let first : x ≡ y = some_same x y (sym (at_first x xs) ∙ e x.id ∙ rw (eq-eqb y.id.0 x.id.0 (sym same)) refl) in
        ap (λ v. v ∷ xs) first ∙ ap (λ v. y ∷ v) (one_list (x.id.0 + 1) xs ys h.1 (subst (λ (n : ℕ). Rises (n + 1) ys) (sym same) k.1) (rest same))
  ]
] where
  rest : x.id.0 ≡ y.id.0 → (id : ItemId) → row_at xs id ≡ row_at ys id
  rest same id = elim (cases_Bool (eqb x.id.0 id.0)) [
    | inl hit ↦
        let at : x.id.0 ≡ id.0 = eqb-true x.id.0 id.0 hit in
        not_below (x.id.0 + 1) xs id h.1 (omega (arith, at)) ∙ sym (not_below (y.id.0 + 1) ys id k.1 (omega (arith, at, same)))
    | inr miss ↦
        let other : x.id.0 ≢ id.0 = λ at. let z : true ≡ false = sym (eq-eqb x.id.0 id.0 at) ∙ miss in cc in
        sym (at_rest x xs id other) ∙ e id ∙ at_rest y ys id (λ at. other (same ∙ at))
  ]

-- look-ups in what is put and removed

at_without : (k id : ItemId) (xs : List Row) → row_at (without_row k xs) id ≡ cond (eqb k.0 id.0) None (row_at xs id)
at_without k id [] = none_or_none (eqb k.0 id.0)
at_without k id (x ∷ xs) = elim (cases_Bool (eqb x.id.0 k.0)) [
  | inl hit ↦
      let e : eqb x.id.0 id.0 ≡ eqb k.0 id.0 = ap (λ n. eqb n id.0) (eqb-true x.id.0 k.0 hit) in
      rw hit (at_without k id xs ∙ drop_same (eqb x.id.0 id.0) (eqb k.0 id.0) (Some x) (row_at xs id) e)
  | inr miss ↦
      rw miss (keep_other (eqb x.id.0 id.0) (eqb k.0 id.0) (Some x) None (row_at xs id) (row_at (without_row k xs) id)
      (λ at. ne_eqb k.0 id.0 (λ same. let z : true ≡ false = sym (eq-eqb x.id.0 k.0 (eqb-true x.id.0 id.0 at ∙ sym same)) ∙ miss in cc)) (at_without k id xs))
]

at_put : (r : Row) (id : ItemId) (xs : List Row) → row_at xs r.id ≡ None → row_at (put_in (λ x y. ltb x.id.0 y.id.0) r xs) id ≡ cond (eqb r.id.0 id.0) (Some r) (row_at xs id)
at_put r id [] n = refl
at_put r id (x ∷ xs) n = elim (cases_lt x.id.0 r.id.0) [
  | inl less ↦
      rw (lt-ltb x.id.0 r.id.0 less) (keep_other (eqb x.id.0 id.0) (eqb r.id.0 id.0) (Some x) (Some r) (row_at xs id) (row_at (put_in (λ x y. ltb x.id.0 y.id.0) r xs) id)
      (λ at. ne_eqb r.id.0 id.0 (λ same. absurd (omega (arith, less, same, eqb-true x.id.0 id.0 at)))) (at_put r id xs (sym (at_rest x xs r.id (λ e. absurd (omega (arith, e, less)))) ∙ n)))
  | inr more ↦ rw (le-ltb x.id.0 r.id.0 more) refl
]

at_with : (r : Row) (id : ItemId) (xs : List Row) → row_at (with_row r xs) id ≡ cond (eqb r.id.0 id.0) (Some r) (row_at xs id)
at_with r id xs =
    at_put r id (without_row r.id xs) (at_without r.id r.id xs ∙ ap (λ b. cond b None (row_at xs r.id)) (eq-eqb r.id.0 r.id.0 refl))
    ∙ ap (λ o. cond (eqb r.id.0 id.0) (Some r) o) (at_without r.id id xs) ∙ twice (eqb r.id.0 id.0) (Some r) None (row_at xs id)

at_removed : (ids : List ItemId) (id : ItemId) (xs : List Row) → row_at (without_rows ids xs) id ≡ cond (has_id ids id) None (row_at xs id)
at_removed ids id [] = none_or_none (has_id ids id)
at_removed ids id (x ∷ xs) = elim (cases_Bool (is_removed ids x)) [
  | inl hit ↦
      rw hit (drop_in (eqb x.id.0 id.0) (has_id ids id) (Some x) (row_at xs id) (row_at (without_rows ids xs) id)
      (λ at. ap (λ n. list_any (λ i. eqb i.0 n) ids) (sym (eqb-true x.id.0 id.0 at)) ∙ hit) (at_removed ids id xs))
  | inr miss ↦
      rw miss (keep_other (eqb x.id.0 id.0) (has_id ids id) (Some x) None (row_at xs id) (row_at (without_rows ids xs) id)
      (λ at. ap (λ n. list_any (λ i. eqb i.0 n) ids) (sym (eqb-true x.id.0 id.0 at)) ∙ miss) (at_removed ids id xs))
]

found_id : (xs : List Row) (id : ItemId) (r : Row) → row_at xs id ≡ Some r → r.id.0 ≡ id.0
found_id [] id r h = let z : None ≡ Some r = h in cc
found_id (x ∷ xs) id r h = elim (cases_Bool (eqb x.id.0 id.0)) [
  | inl hit ↦
      let z : Some x ≡ Some r = sym (ap (λ b. cond b (Some x) (row_at xs id)) hit) ∙ h in
      ap (λ y. y.id.0) (sym (some_same x r z)) ∙ eqb-true x.id.0 id.0 hit
  | inr miss ↦ found_id xs id r (sym (ap (λ b. cond b (Some x) (row_at xs id)) miss) ∙ h)
]

same_id : (a b : ItemId) → a.0 ≡ b.0 → a ≡ b
same_id a b h = ap (λ n. record { 0 = n }) h

at_changed : (now : List Row) (ids : List ItemId) (xs : List Row) (id : ItemId) → row_at (with_rows (rows_at now ids) xs) id ≡ cond (has_id ids id && is_some (row_at now id)) (row_at now id) (row_at xs id)
at_changed now [] xs id = refl
at_changed now (i ∷ is) xs id = by (row_at now i) refl (at_changed now is) where
  by : (o : Option Row) → row_at now i ≡ o → ((ys : List Row) (k : ItemId) → row_at (with_rows (rows_at now is) ys) k ≡ cond (has_id is k && is_some (row_at now k)) (row_at now k) (row_at ys k)) →
      row_at (with_rows (in_front o (rows_at now is)) xs) id ≡ cond ((eqb i.0 id.0 || has_id is id) && is_some (row_at now id)) (row_at now id) (row_at xs id)
  by None e so =
      so xs id ∙ named_none (eqb i.0 id.0) (has_id is id) (row_at now id) (row_at xs id) (λ at. ap (row_at now) (sym (same_id i id (eqb-true i.0 id.0 at))) ∙ e)
  by (Some r) e so =
      so (with_row r xs) id
      ∙ ap (λ o. cond (has_id is id && is_some (row_at now id)) (row_at now id) o) (at_with r id xs ∙ ap (λ n. cond (eqb n id.0) (Some r) (row_at xs id)) (found_id now i r e))
      ∙ named_some (eqb i.0 id.0) (has_id is id) (row_at now id) (row_at xs id) r (λ at. ap (row_at now) (sym (same_id i id (eqb-true i.0 id.0 at))) ∙ e)

-- order

filter_rises : (f : Row → Bool) (low : ℕ) (xs : List Row) → Rises low xs → Rises low (filter f xs)
filter_rises f low [] h = tt
filter_rises f low (x ∷ xs) h = by (f x) (filter_rises f (x.id.0 + 1) xs h.1) where
  by : (b : Bool) → Rises (x.id.0 + 1) (filter f xs) → Rises low (cond b (x ∷ filter f xs) (filter f xs))
  by true so = (h.0, so)
  by false so = weaker low (x.id.0 + 1) (filter f xs) (omega (arith, h.0)) so

put_rises : (r : Row) (low : ℕ) (xs : List Row) → low ≤ r.id.0 → row_at xs r.id ≡ None → Rises low xs → Rises low (put_in (λ x y. ltb x.id.0 y.id.0) r xs)
put_rises r low [] le n h = (le, tt)
put_rises r low (x ∷ xs) le n h = elim (cases_lt x.id.0 r.id.0) [
  | inl less ↦ rw (lt-ltb x.id.0 r.id.0 less) (h.0, put_rises r (x.id.0 + 1) xs (omega (arith, less)) (sym (at_rest x xs r.id (λ e. absurd (omega (arith, e, less)))) ∙ n) h.1)
  | inr more ↦
      let other : x.id.0 ≢ r.id.0 = λ e. let z : Some x ≡ None = sym (ap (λ b. cond b (Some x) (row_at xs r.id)) (eq-eqb x.id.0 r.id.0 e)) ∙ n in cc in
      rw (le-ltb x.id.0 r.id.0 more) (le, (omega (arith, more, other), h.1))
]

with_rises : (r : Row) (xs : List Row) → Rises 0 xs → Rises 0 (with_row r xs)
with_rises r xs h =
    put_rises r 0 (without_row r.id xs) (omega arith) (at_without r.id r.id xs ∙ ap (λ b. cond b None (row_at xs r.id)) (eq-eqb r.id.0 r.id.0 refl)) (filter_rises (λ x. not (eqb x.id.0 r.id.0)) 0 xs h)

all_rise : (rs xs : List Row) → Rises 0 xs → Rises 0 (with_rows rs xs)
all_rise [] xs h = h
all_rise (r ∷ rs) xs h = all_rise rs (with_row r xs) (with_rises r xs h)

pub rows_left : (old new : List Row) (removed changed : List ItemId) → Rises 0 old → Rises 0 new → ((id : ItemId) → row_left old new removed changed id ≡ row_at new id) → with_rows (rows_at new changed) (without_rows removed old) ≡ new
rows_left old new removed changed h k names =
    one_list 0 (with_rows (rows_at new changed) (without_rows removed old)) new (all_rise (rows_at new changed) (without_rows removed old) (filter_rises (λ r. not (is_removed removed r)) 0 old h)) k
    (λ id. at_changed new changed (without_rows removed old) id ∙ ap (λ o. cond (has_id changed id && is_some (row_at new id)) (row_at new id) o) (at_removed removed id old) ∙ names id)
