-- What is found in a list of rows.
use Rattle.std.proofs.Common.{◌≡◌, ℕ, zero, suc, ◌+◌, ◌<◌, ◌≤◌, Bool, true, false, ◌&&◌, List, [], ◌∷◌, length, get_or, refl, ap, ◌∙◌, arith, eqb, Some, None, inl, inr}
use Rattle.std.specs.Prelude.{bytes_eq, find}
use Rattle.std.proofs.lemmas.Bool.{cases_lt, cond-true, cond-false}
use Rattle.cf_model.specs.Words.{same}
use Rattle.cf_table.specs.Tables.{IsRowAt, RisesFrom}
use Rattle.cf_table.specs.declared.rows.Row.{Row}
use Rattle.cf_table.proofs.Searched.{from_low}

pub same_bytes : (xs ys : List ℕ) → bytes_eq xs ys ≡ same xs ys
same_bytes [] [] = refl
same_bytes [] (y ∷ ys) = refl
same_bytes (x ∷ xs) [] = refl
same_bytes (x ∷ xs) (y ∷ ys) = ap (λ b. eqb x y && b) (same_bytes xs ys)

rise : (low : ℕ) (rows : List Row) → RisesFrom low rows → (i j : ℕ) (d : Row) → i < j → j < length rows → (get_or rows i d).id.0 < (get_or rows j d).id.0
rise low [] h i j d lt le = absurd (omega arith)
rise low (r ∷ rs) h i zero d lt le = absurd (omega arith)
rise low (r ∷ rs) h zero (suc j) d lt le = omega (arith, from_low (r.id.0 + 1) j rs d h.1 (omega arith))
rise low (r ∷ rs) h (suc i) (suc j) d lt le = rise (r.id.0 + 1) rs h.1 i j d (omega arith) (omega arith)

pub up_to : (rows : List Row) (id k i : ℕ) (d : Row) → RisesFrom 0 rows → IsRowAt rows id k → i < k + 1 → (get_or rows i d).id.0 ≤ id
up_to rows id k i d h at lt = elim (cases_lt i k) [
  | inl less ↦ omega (arith, at.has_id d, rise 0 rows h i k d less at.in_range)
  | inr more ↦ let e : i ≡ k = omega arith in omega (arith, ap (λ j. (get_or rows j d).id.0) e, at.has_id d)
]

pub past : (rows : List Row) (id k i : ℕ) (d : Row) → RisesFrom 0 rows → IsRowAt rows id k → k + 1 ≤ i → i < length rows → id < (get_or rows i d).id.0
past rows id k i d h at le lt = omega (arith, at.has_id d, rise 0 rows h k i d (omega arith) lt)

pub found_first : (f : Row → Bool) (rows : List Row) (k : ℕ) (d : Row) → k < length rows → ((j : ℕ) (d : Row) → j < k → f (get_or rows j d) ≡ false) → f (get_or rows k d) ≡ true → find f rows ≡ Some (get_or rows k d)
found_first f [] k d lt none hit = absurd (omega arith)
found_first f (x ∷ xs) zero d lt none hit = cond-true (f x) _ _ hit
found_first f (x ∷ xs) (suc k) d lt none hit = cond-false (f x) _ _ (none 0 x (omega arith)) ∙ found_first f xs k d (omega arith) (λ j e less. none (suc j) e (omega arith)) hit

pub found_none : (f : Row → Bool) (rows : List Row) → ((j : ℕ) (d : Row) → j < length rows → f (get_or rows j d) ≡ false) → find f rows ≡ None
found_none f [] none = refl
found_none f (x ∷ xs) none = cond-false (f x) _ _ (none 0 x (omega arith)) ∙ found_none f xs (λ j d less. none (suc j) d (omega arith))
