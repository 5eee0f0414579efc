-- Rows that come with their entry, or not at all.
use Rattle.std.proofs.Common.{◌≡◌, ℕ, zero, suc, ◌<◌, ◌≤◌, List, [], ◌∷◌, ◌++◌, Result, Ok, Err, length, refl, sym, ap, subst, ◌∙◌, arith}
use Rattle.std.specs.Prelude.{All, IfOk, OnErr, OnOk, insert, remove}
use Rattle.cf_model.specs.Words.{put_in}
use Rattle.cf_table.specs.Index.{IsIndexed, entry_of, stands_before}
use Rattle.cf_table.specs.Tables.{IsRowGap, IsTable, with_row}
use Rattle.cf_table.specs.declared.entries.Entry.{Entry}
use Rattle.cf_table.specs.declared.rows.Row.{Row}
use Rattle.cf_table.proofs.Indexed.{inserted_indexed, pushed_indexed}
use Rattle.cf_table.proofs.TableMeans.{insert_is_with}

pub pushed_all : {E : Type 0} (r : Result ℕ E) (rows mid new : List Row) (es put : List Entry) (e : Entry) (row : Row) (n m : ℕ) → IsIndexed rows es n → All (λ r. r.id.0 < row.id.0) rows → e ≡ entry_of row → mid ≡ rows ++ row ∷ [] → IsTable mid m
    → OnOk r (new ≡ mid) → OnOk r (put ≡ put_in stands_before e es) → IfOk r (λ k. k ≡ m) → IfOk r (IsIndexed new put)
pushed_all (Ok k) rows mid new es put e row n m t above same is table stay puts len =
    pushed_indexed rows new es put e row n k t above same puts (stay ∙ is) (subst (λ (l : List Row). IsTable l k) (sym stay) (subst (λ (j : ℕ). IsTable mid j) (sym len) table))
pushed_all (Err x) rows mid new es put e row n m t above same is table stay puts len = tt

pub inserted_all : {E : Type 0} (r : Result ℕ E) (rows mid new : List Row) (es put : List Entry) (e : Entry) (row : Row) (k n m : ℕ) → IsIndexed rows es n → IsRowGap rows row.id.0 k → e ≡ entry_of row → mid ≡ with_row row rows → IsTable mid m
    → OnOk r (new ≡ mid) → OnOk r (put ≡ put_in stands_before e es) → IfOk r (λ k. k ≡ m) → IfOk r (IsIndexed new put)
inserted_all (Ok j) rows mid new es put e row k n m t gap same is table stay puts len =
    inserted_indexed rows new es put e row k n j t gap same puts (stay ∙ is) (subst (λ (l : List Row). IsTable l j) (sym stay) (subst (λ (i : ℕ). IsTable mid i) (sym len) table))
inserted_all (Err x) rows mid new es put e row k n m t gap same is table stay puts len = tt

pub on_both : {X E A B C : Type 0} (r : Result X E) → (A → B → C) → OnErr r A → OnErr r B → OnErr r C
on_both (Ok x) f a b = tt
on_both (Err e) f a b = f a b

pub push_undone : (rows : List Row) (row : Row) (n : ℕ) → n ≡ length rows → remove (rows ++ row ∷ []) n ≡ rows
push_undone [] row zero e = refl
push_undone [] row (suc n) e = absurd (omega arith)
push_undone (x ∷ xs) row zero e = absurd (omega arith)
push_undone (x ∷ xs) row (suc n) e = ap (λ (l : List Row). x ∷ l) (push_undone xs row n (omega arith))

undone : (rows : List Row) (row : Row) (k : ℕ) → k ≤ length rows → remove (insert rows k row) k ≡ rows
undone rows row zero le = refl
undone [] row (suc k) le = absurd (omega arith)
undone (x ∷ xs) row (suc k) le = ap (λ (l : List Row). x ∷ l) (undone xs row k (omega arith))

pub insert_undone : (rows : List Row) (row : Row) (k : ℕ) → IsRowGap rows row.id.0 k → remove (with_row row rows) k ≡ rows
insert_undone rows row k gap = ap (λ (l : List Row). remove l k) (sym (insert_is_with rows k row gap)) ∙ undone rows row k gap.in_range

longer : (rows : List Row) (row : Row) (k : ℕ) → k ≤ length rows → k < length (insert rows k row)
longer rows row zero le = omega arith
longer [] row (suc k) le = absurd (omega arith)
longer (x ∷ xs) row (suc k) le = omega (arith, longer xs row k (omega arith))

pub insert_there : (rows new : List Row) (row : Row) (k : ℕ) → IsRowGap rows row.id.0 k → new ≡ with_row row rows → k < length new
insert_there rows new row k gap is = omega (arith, longer rows row k gap.in_range, ap (λ (l : List Row). length l) (is ∙ sym (insert_is_with rows k row gap)))
