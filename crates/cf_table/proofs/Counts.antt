-- How many rows are of a directory whose entries are not known, as rows change.
use Rattle.std.proofs.Common.{◌≡◌, ◌∙◌, ◌<◌, ◌≤◌, ◌+◌, ◌-◌, ◌++◌, ◌∷◌, ◌||◌, ℕ, List, [], true, false, Bool, cond, ap, arith, get_or, length, ltb, refl, set}
use Rattle.std.specs.List.{list_any}
use Rattle.std.specs.Prelude.{insert, remove}
use Rattle.std.proofs.lemmas.Bool.Decides.{nat_tests}
use Rattle.std.proofs.lemmas.List.{get_or-set_same}
use Rattle.std.proofs.lemmas.List.Sums.{count_by-le-length, sum_by-cons, sum_by-insert, sum_by-remove, sum_by-set, sum_by_push}
use Rattle.cf_table.specs.Tables.{IsRowAt, IsRowGap, RisesFrom, with_row}
use Rattle.cf_table.specs.Unlisted.{is_unlisted, unlisted_in}
use Rattle.cf_table.specs.declared.rows.Row.{Row}
use Rattle.cf_table.proofs.TableMeans.{insert_is_with, set_is_with}

-- another row, one more and one less

pub set_count : (rows : List Row) (k : ℕ) (s d : Row) → k < length rows → unlisted_in (set rows k s) + cond (is_unlisted (get_or rows k d)) 1 0 ≡ unlisted_in rows + cond (is_unlisted s) 1 0
set_count rows k s d lt = sum_by-set (λ r. cond (is_unlisted r) 1 0) rows k s d lt

pub insert_count : (rows : List Row) (k : ℕ) (s : Row) → unlisted_in (insert rows k s) ≡ unlisted_in rows + cond (is_unlisted s) 1 0
insert_count rows k s = sum_by-insert (λ r. cond (is_unlisted r) 1 0) rows k s

pub remove_count : (rows : List Row) (k : ℕ) (d : Row) → k < length rows → unlisted_in (remove rows k) + cond (is_unlisted (get_or rows k d)) 1 0 ≡ unlisted_in rows
remove_count rows k d lt = sum_by-remove (λ r. cond (is_unlisted r) 1 0) rows k d lt

pub push_count : (rows : List Row) (s : Row) → unlisted_in (rows ++ s ∷ []) ≡ unlisted_in rows + cond (is_unlisted s) 1 0
push_count rows s = sum_by_push (λ r. cond (is_unlisted r) 1 0) rows s

pub count_most : (rows : List Row) → unlisted_in rows ≤ length rows
count_most rows = count_by-le-length is_unlisted rows

pub most_one : (b : Bool) → cond b 1 0 ≤ 1
most_one true = omega arith
most_one false = omega arith

pub kept_count : (rows : List Row) (k : ℕ) (s : Row) → k < length rows → is_unlisted s ≡ is_unlisted (get_or rows k s) → unlisted_in (set rows k s) ≡ unlisted_in rows
kept_count rows k s lt same = omega (arith, set_count rows k s s lt, ap {B = ℕ} (λ (b : Bool). cond b 1 0) same)

-- the row at a place

pub count_here : (rows : List Row) (k n : ℕ) (x : Row) → k < length rows → x ≡ get_or rows k x → n ≡ cond (is_unlisted x) 1 0 → n ≤ unlisted_in rows
count_here rows k n x lt here is = omega (arith, is, ap {B = ℕ} (λ (r : Row). cond (is_unlisted r) 1 0) here, remove_count rows k x lt)

pub count_gone : (u n k : ℕ) (old new : List Row) (x : Row) → k < length old → u ≡ unlisted_in old → x ≡ get_or old k x → n ≡ cond (is_unlisted x) 1 0 → new ≡ remove old k → u - n ≡ unlisted_in new
count_gone u n k old new x lt count here is gone = omega (arith, count, is, ap {B = ℕ} (λ (r : Row). cond (is_unlisted r) 1 0) here, ap unlisted_in gone, remove_count old k x lt)

pub count_changed : (u before after k : ℕ) (old new : List Row) (s x y : Row) → k < length old → u ≡ unlisted_in old → x ≡ get_or old k x → before ≡ cond (is_unlisted x) 1 0
    → new ≡ set old k s → y ≡ get_or new k y → after ≡ cond (is_unlisted y) 1 0 → u - before + after ≡ unlisted_in new
count_changed u before after k old new s x y lt count here is sets there becomes =
    let same : y ≡ s = there ∙ ap (λ (l : List Row). get_or l k y) sets ∙ get_or-set_same old k s y lt in
    omega (arith, count, is, ap {B = ℕ} (λ (r : Row). cond (is_unlisted r) 1 0) here, ap unlisted_in sets, becomes, ap {B = ℕ} (λ (r : Row). cond (is_unlisted r) 1 0) same, set_count old k s x lt, remove_count old k x lt)

-- a row in its place by id

pub put_at : (rows : List Row) (k n : ℕ) (x row : Row) → RisesFrom 0 rows → IsRowAt rows row.id.0 k → x ≡ get_or rows k x → n ≡ cond (is_unlisted x) 1 0
    → unlisted_in (with_row row rows) + n ≡ unlisted_in rows + cond (is_unlisted row) 1 0
put_at rows k n x row rises at here is =
    omega (arith, is, ap {B = ℕ} (λ (r : Row). cond (is_unlisted r) 1 0) here, ap unlisted_in (set_is_with 0 rows k row rises at), set_count rows k row x at.in_range)

pub put_in_gap : (rows : List Row) (k : ℕ) (row : Row) → IsRowGap rows row.id.0 k → unlisted_in (with_row row rows) + 0 ≡ unlisted_in rows + cond (is_unlisted row) 1 0
put_in_gap rows k row gap = omega (arith, ap unlisted_in (insert_is_with rows k row gap), insert_count rows k row)

pub count_put : (u before after : ℕ) (row : Row) (old given new : List Row) → given ≡ old → u ≡ unlisted_in old → before ≤ unlisted_in given
    → unlisted_in (with_row row given) + before ≡ unlisted_in given + cond (is_unlisted row) 1 0 → after ≡ cond (is_unlisted row) 1 0 → new ≡ with_row row old → u - before + after ≡ unlisted_in new
count_put u before after row old given new same count most put is puts =
    omega (arith, count, most, put, is, ap unlisted_in same, ap (λ (l : List Row). unlisted_in (with_row row l)) same, ap unlisted_in puts)

pub count_pushed : (u after : ℕ) (row : Row) (old new : List Row) → u ≡ unlisted_in old → after ≡ cond (is_unlisted row) 1 0 → new ≡ old ++ row ∷ [] → u + after ≡ unlisted_in new
count_pushed u after row old new count is adds = omega (arith, count, is, ap unlisted_in adds, push_count old row)

-- whether there is one

pub some_unlisted : (rows : List Row) → ltb 0 (unlisted_in rows) ≡ list_any is_unlisted rows
some_unlisted [] = refl
some_unlisted (r ∷ rs) = ap (λ n. ltb 0 n) (sum_by-cons (λ x. cond (is_unlisted x) 1 0) r rs) ∙ step (is_unlisted r) (unlisted_in rs) (list_any is_unlisted rs) (some_unlisted rs) where
  step : (b : Bool) (n : ℕ) (a : Bool) → ltb 0 n ≡ a → ltb 0 (cond b 1 0 + n) ≡ (b || a)
  step true n a h = grind (arith, nat_tests)
  step false n a h = grind (arith, nat_tests)
