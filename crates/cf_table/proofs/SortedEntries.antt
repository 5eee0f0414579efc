-- Entries that are sorted at once are those that are put in one by one.
use Rattle.std.proofs.Common.{◌≡◌, ◌∙◌, ◌+◌, ◌<◌, ◌≤◌, ◌⊎◌, ◌++◌, ◌∷◌, ℕ, zero, suc, List, [], true, false, Bool, cond, ap, arith, eqb, get_or, inl, inr, length, not, refl, sym, take}
use Rattle.std.specs.Cmp.{IsStrictWeakOrder}
use Rattle.std.specs.List.Sorted.{IsPermutation, IsSortedBy}
use Rattle.std.specs.declared.cmp.Ordering.TheVariants.{Equal}
use Rattle.std.specs.Prelude.{Contains, sum_by}
use Rattle.std.proofs.lemmas.Bool.{eqb-true, eq-eqb}
use Rattle.std.proofs.lemmas.List.{map-append, take_more}
use Rattle.std.proofs.lemmas.List.MinMax.{ranks_by}
use Rattle.std.proofs.lemmas.List.Sorted.{Contains-permutation, IsPermutation-cons, IsPermutation-insert, IsPermutation-refl, IsPermutation-sym, IsPermutation-trans, sorted_far, sum_by-IsPermutation}
use Rattle.std.proofs.lemmas.List.Sums.{sum_by-cons}
use Rattle.cf_lists.specs.Ordered.{AllAfter, InOrder}
use Rattle.cf_lists.proofs.Ordered as ordered
use Rattle.cf_model.specs.Words.{put_in, sorted}
use Rattle.cf_table.specs.Index.{compared, entries_of, entry_of, index_of, stands_before}
use Rattle.cf_table.specs.Tables.{RisesFrom}
use Rattle.cf_table.specs.declared.entries.Entry.{Entry}
use Rattle.cf_table.specs.declared.rows.Row.{Row}
use Rattle.cf_table.proofs.Indexed.{compared_total, index_in_order, one_id}

pub order_ranks : IsStrictWeakOrder stands_before
order_ranks = ranks_by compared_total (λ (e : Entry). e)

-- two lists in order that have the same entries are one

abbrev Has : List Entry → List Entry → Type 0
Has xs ys = (z : Entry) → Contains ys z → Contains xs z

first_in : (x : Entry) (xs : List Entry) → Contains (x ∷ xs) x
first_in x xs = (zero, omega arith, refl)

rest_in : (x z : Entry) (xs : List Entry) → Contains xs z → Contains (x ∷ xs) z
rest_in x z xs c = (suc c.0, omega (arith, c.1), c.2)

first_or_rest : (x z : Entry) (xs : List Entry) → Contains (x ∷ xs) z → (x ≡ z) ⊎ Contains xs z
first_or_rest x z xs c = by c.0 c.1 c.2 where
  by : (k : ℕ) → k < length (x ∷ xs) → get_or (x ∷ xs) k z ≡ z → (x ≡ z) ⊎ Contains xs z
  by zero lt is = inl is
  by (suc k) lt is = inr (k, omega arith, is)

after_first : (x z : Entry) (xs : List Entry) → InOrder stands_before (x ∷ xs) → Contains xs z → stands_before x z ≡ true
after_first x z xs h c = ap (λ (e : Entry). stands_before x e) (sym c.2) ∙ ordered.rise compared compared_total (x ∷ xs) 0 (suc c.0) z h (omega arith) (omega (arith, c.1))

not_both : (x y : Entry) → stands_before x y ≡ true → stands_before y x ≡ true → ⊥
not_both x y h k = let z : true ≡ false = sym k ∙ ordered.after_is_not_before compared compared_total x y h in cc

one_in_order : (xs ys : List Entry) → InOrder stands_before xs → InOrder stands_before ys → Has xs ys → Has ys xs → xs ≡ ys
one_in_order [] [] h k s t = refl
one_in_order [] (y ∷ ys) h k s t = absurd (omega (arith, (s y (first_in y ys)).1))
one_in_order (x ∷ xs) [] h k s t = absurd (omega (arith, (t x (first_in x xs)).1))
one_in_order (x ∷ xs) (y ∷ ys) h k s t = λ i. same i ∷ one_in_order xs ys h.1 k.1 (rest_has s) (rest_had t) i where
  same : x ≡ y
  same = elim (first_or_rest x y xs (s y (first_in y ys))) [
    | inl is ↦ is
    | inr later ↦ elim (first_or_rest y x ys (t x (first_in x xs))) [
      | inl is ↦ sym is
      | inr sooner ↦ absurd (not_both x y (after_first x y xs h later) (after_first y x ys k sooner))
    ]
  ]

  rest_has : Has (x ∷ xs) (y ∷ ys) → Has xs ys
  rest_has s z c = elim (first_or_rest x z xs (s z (rest_in y z ys c))) [
    | inl is ↦ let after : stands_before z z ≡ true = ap (λ (e : Entry). stands_before e z) (sym (sym same ∙ is)) ∙ after_first y z ys k c in absurd (not_both z z after after)
    | inr here ↦ here
  ]

  rest_had : Has (y ∷ ys) (x ∷ xs) → Has ys xs
  rest_had t z c = elim (first_or_rest y z ys (t z (rest_in x z xs c))) [
    | inl is ↦ let after : stands_before z z ≡ true = ap (λ (e : Entry). stands_before e z) (sym (same ∙ is)) ∙ after_first x z xs h c in absurd (not_both z z after after)
    | inr here ↦ here
  ]

-- the entries that are put in one by one are those of the list

put_permutes : (x : Entry) (ys : List Entry) → IsPermutation (x ∷ ys) (put_in stands_before x ys)
put_permutes x [] = IsPermutation-refl (x ∷ [])
put_permutes x (y ∷ ys) = by (stands_before y x) (put_permutes x ys) where
  by : (b : Bool) → IsPermutation (x ∷ ys) (put_in stands_before x ys) → IsPermutation (x ∷ y ∷ ys) (cond b (y ∷ put_in stands_before x ys) (x ∷ y ∷ ys))
  by true more = IsPermutation-trans (x ∷ y ∷ ys) (y ∷ x ∷ ys) (y ∷ put_in stands_before x ys) (IsPermutation-insert (y ∷ ys) 1 x) (IsPermutation-cons y (x ∷ ys) (put_in stands_before x ys) more)
  by false more = IsPermutation-refl (x ∷ y ∷ ys)

sorted_permutes : (xs : List Entry) → IsPermutation xs (sorted stands_before xs)
sorted_permutes [] = IsPermutation-refl []
sorted_permutes (x ∷ xs) =
    IsPermutation-trans (x ∷ xs) (x ∷ sorted stands_before xs) (sorted stands_before (x ∷ xs)) (IsPermutation-cons x xs (sorted stands_before xs) (sorted_permutes xs)) (put_permutes x (sorted stands_before xs))

-- entries of different ids that do not fall rise

abbrev has_id : ℕ → Entry → ℕ
has_id n e = cond (eqb e.id.0 n) 1 0

abbrev AreApart : List Entry → Type 0
AreApart es = (n : ℕ) → sum_by (has_id n) es ≤ 1

apart_from : (low n : ℕ) (rows : List Row) → RisesFrom low rows → record { most : sum_by (has_id n) (entries_of rows) ≤ 1; none : n < low → sum_by (has_id n) (entries_of rows) ≤ 0 }
apart_from low n [] h = record { most = omega arith; none = λ lt. omega arith }
apart_from low n (r ∷ rs) h = by (eqb r.id.0 n) refl (apart_from (r.id.0 + 1) n rs h.1) where
  sum : sum_by (has_id n) (entries_of (r ∷ rs)) ≡ has_id n (entry_of r) + sum_by (has_id n) (entries_of rs)
  sum = sum_by-cons (has_id n) (entry_of r) (entries_of rs)

  by : (b : Bool) → eqb r.id.0 n ≡ b → record { most : sum_by (has_id n) (entries_of rs) ≤ 1; none : n < r.id.0 + 1 → sum_by (has_id n) (entries_of rs) ≤ 0 }
      → record { most : sum_by (has_id n) (entries_of (r ∷ rs)) ≤ 1; none : n < low → sum_by (has_id n) (entries_of (r ∷ rs)) ≤ 0 }
  by true e rest =
      let id : r.id.0 ≡ n = eqb-true r.id.0 n e in
      let one : has_id n (entry_of r) ≡ 1 = ap {B = ℕ} (λ (b : Bool). cond b 1 0) e in
      record { most = omega (arith, sum, one, rest.none (omega (arith, id))); none = λ lt. absurd (omega (arith, lt, id, h.0)) }
  by false e rest =
      let zero : has_id n (entry_of r) ≡ 0 = ap {B = ℕ} (λ (b : Bool). cond b 1 0) e in
      record { most = omega (arith, sum, zero, rest.most); none = λ lt. omega (arith, sum, zero, rest.none (omega (arith, lt, h.0))) }

abbrev NoneFalls : List Entry → Type 0
NoneFalls es = (i j : ℕ) (d : Entry) → i ≤ j → j < length es → stands_before (get_or es j d) (get_or es i d) ≡ false

not_false : (a b : Bool) → b ≡ false → a ≡ not b → a ≡ true
not_false a b f g = g ∙ ap not f

all_after : (e : Entry) (es : List Entry) → ((j : ℕ) (d : Entry) → j < length es → stands_before (get_or es j d) e ≡ false) → sum_by (has_id e.id.0) es ≤ 0 → AllAfter stands_before e es
all_after e [] far none = tt
all_after e (f ∷ fs) far none = (more, all_after e fs (λ j d lt. far (suc j) d (omega arith)) (omega (arith, none, sum))) where
  sum : sum_by (has_id e.id.0) (f ∷ fs) ≡ has_id e.id.0 f + sum_by (has_id e.id.0) fs
  sum = sum_by-cons (has_id e.id.0) f fs

  other : compared f e ≡ Equal → ⊥
  other is =
      let one : has_id e.id.0 f ≡ 1 = ap {B = ℕ} (λ (b : Bool). cond b 1 0) (eq-eqb f.id.0 e.id.0 (one_id f e is)) in
      omega (arith, none, sum, one)

  more : stands_before e f ≡ true
  more = not_false (stands_before e f) (stands_before f e) (far 0 f (omega arith)) (ordered.other_way compared compared_total f e other)

in_order : (es : List Entry) → NoneFalls es → AreApart es → InOrder stands_before es
in_order [] far apart = tt
in_order (e ∷ es) far apart = (
  all_after e es (λ j d lt. far 0 (suc j) d (omega arith) (omega arith)) (omega (arith, apart e.id.0, sum e.id.0, one)),
  in_order es (λ i j d le lt. far (suc i) (suc j) d (omega arith) (omega arith)) (λ n. omega (arith, apart n, sum n)),
) where
  sum : (n : ℕ) → sum_by (has_id n) (e ∷ es) ≡ has_id n e + sum_by (has_id n) es
  sum n = sum_by-cons (has_id n) e es

  one : has_id e.id.0 e ≡ 1
  one = ap {B = ℕ} (λ (b : Bool). cond b 1 0) (eq-eqb e.id.0 e.id.0 refl)

pub sorted_at_once : (rows : List Row) (es : List Entry) → RisesFrom 0 rows → IsPermutation (entries_of rows) es → IsSortedBy stands_before es → es ≡ index_of rows
sorted_at_once rows es h perm up = one_in_order es (index_of rows) ordered_es (index_in_order rows h) has had where
  ordered_es : InOrder stands_before es
  ordered_es = in_order es (sorted_far stands_before order_ranks es up) (λ n. omega (arith, sum_by-IsPermutation (has_id n) (entries_of rows) es perm, (apart_from 0 n rows h).most))

  both : IsPermutation es (index_of rows)
  both = IsPermutation-trans es (entries_of rows) (index_of rows) (IsPermutation-sym (entries_of rows) es perm) (sorted_permutes (entries_of rows))

  has : Has es (index_of rows)
  has z c = Contains-permutation (index_of rows) es z (IsPermutation-sym es (index_of rows) both) c

  had : Has (index_of rows) es
  had z c = Contains-permutation es (index_of rows) z both c

-- the entries of the first rows

pub entry_more : (rows : List Row) (es : List Entry) (e : Entry) (k : ℕ) (r : Row) → k < length rows → r ≡ get_or rows k r → es ≡ entries_of (take k rows) → e ≡ entry_of r → es ++ e ∷ [] ≡ entries_of (take (k + 1) rows)
entry_more rows es e k r lt here is entry =
    ap (λ (l : List Entry). l ++ e ∷ []) is ∙ ap (λ (f : Entry). entries_of (take k rows) ++ f ∷ []) (entry ∙ ap entry_of here) ∙ sym (map-append entry_of (take k rows) (get_or rows k r ∷ [])) ∙ ap entries_of (sym (take_more rows k r lt))
