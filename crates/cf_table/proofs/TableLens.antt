-- A list of rows stays a table, and how many bytes spell it.
use Rattle.std.proofs.Common.{◌≡◌, ℕ, zero, suc, ◌+◌, ◌-◌, ◌*◌, ◌^◌, ◌<◌, ◌≤◌, List, [], ◌∷◌, ◌++◌, length, get_or, set, sym, ap, subst, arith}
use Rattle.std.specs.Prelude.{All, insert, remove}
use Rattle.cf_table.specs.Applied.{IsSpellable}
use Rattle.cf_table.specs.Tables.{AreTableRows, IsRowGap, IsTable, IsTableRow, RisesFrom, row_len, rows_len}
use Rattle.cf_table.specs.declared.rows.Row.{Row}
use Rattle.cf_table.proofs.TableMeans.{rises_insert, rises_push, rises_set}

pub kept_at : (rows : List Row) (k : ℕ) (d : Row) → k < length rows → AreTableRows rows → IsTableRow (get_or rows k d)
kept_at [] k d h s = absurd (omega arith)
kept_at (x ∷ xs) zero d h s = s.0
kept_at (x ∷ xs) (suc k) d h s = kept_at xs k d (omega arith) s.1

pub kept_here : (rows : List Row) (k : ℕ) (r : Row) → k < length rows → r ≡ get_or rows k r → AreTableRows rows → IsTableRow r
kept_here rows k r h e s = subst (λ (x : Row). IsTableRow x) (sym e) (kept_at rows k r h s)

pub spellable_same : (old new : Row) → new.name ≡ old.name → new.identity ≡ old.identity → IsSpellable old → IsSpellable new
spellable_same old new e f h = record { name = omega (arith, ap length e, h.name); identity = omega (arith, ap length f, h.identity) }

part_of : (rows : List Row) (k : ℕ) (d : Row) → k < length rows → row_len (get_or rows k d) ≤ rows_len rows
part_of [] k d h = absurd (omega arith)
part_of (x ∷ xs) zero d h = omega arith
part_of (x ∷ xs) (suc k) d h = omega (arith, part_of xs k d (omega arith))

small : (rows : List Row) → AreTableRows rows → rows_len rows ≤ length rows * 2 ^ 47
small [] s = omega arith
small (x ∷ xs) s = omega (arith, s.0.short, small xs s.1)

pub in_sum : (rows : List Row) (n k : ℕ) (d : Row) → k < length rows → IsTable rows n → row_len (get_or rows k d) ≤ n
in_sum rows n k d h t = omega (arith, t.len, part_of rows k d h)

pub sum_fits : (rows : List Row) (n : ℕ) → length rows < 2 ^ 64 → IsTable rows n → n ≤ 2 ^ 111
sum_fits rows n h t = omega (arith, t.len, small rows t.kept)

-- another row in place of one

kept_set : (rows : List Row) (k : ℕ) (s : Row) → IsTableRow s → AreTableRows rows → AreTableRows (set rows k s)
kept_set [] k s h a = tt
kept_set (x ∷ xs) zero s h a = (h, a.1)
kept_set (x ∷ xs) (suc k) s h a = (a.0, kept_set xs k s h a.1)

len_set : (rows : List Row) (k : ℕ) (s d : Row) → k < length rows → rows_len (set rows k s) + row_len (get_or rows k d) ≡ rows_len rows + row_len s
len_set [] k s d h = absurd (omega arith)
len_set (x ∷ xs) zero s d h = omega arith
len_set (x ∷ xs) (suc k) s d h = omega (arith, len_set xs k s d (omega arith))

pub table_set : (rows : List Row) (n k : ℕ) (s d : Row) → k < length rows → s.id.0 ≡ (get_or rows k d).id.0 → IsTableRow s → IsTable rows n →
    IsTable (set rows k s) (n - row_len (get_or rows k d) + row_len s)
table_set rows n k s d h e kept t = record {
  rises = rises_set 0 rows k s d h e t.rises;
  kept = kept_set rows k s kept t.kept;
  len = omega (arith, t.len, len_set rows k s d h, part_of rows k d h);
}

-- a row that goes

rises_remove : (low : ℕ) (rows : List Row) (k : ℕ) → RisesFrom low rows → RisesFrom low (remove rows k)
rises_remove low [] zero h = tt
rises_remove low [] (suc k) h = tt
rises_remove low (x ∷ xs) zero h = lower low (x.id.0 + 1) xs (omega (arith, h.0)) h.1 where
  lower : (low high : ℕ) (rows : List Row) → low ≤ high → RisesFrom high rows → RisesFrom low rows
  lower low high [] le h = tt
  lower low high (x ∷ xs) le h = (omega (arith, h.0), h.1)
rises_remove low (x ∷ xs) (suc k) h = (h.0, rises_remove (x.id.0 + 1) xs k h.1)

kept_remove : (rows : List Row) (k : ℕ) → AreTableRows rows → AreTableRows (remove rows k)
kept_remove [] zero a = tt
kept_remove [] (suc k) a = tt
kept_remove (x ∷ xs) zero a = a.1
kept_remove (x ∷ xs) (suc k) a = (a.0, kept_remove xs k a.1)

len_remove : (rows : List Row) (k : ℕ) (d : Row) → k < length rows → rows_len (remove rows k) + row_len (get_or rows k d) ≡ rows_len rows
len_remove [] k d h = absurd (omega arith)
len_remove (x ∷ xs) zero d h = omega arith
len_remove (x ∷ xs) (suc k) d h = omega (arith, len_remove xs k d (omega arith))

pub table_remove : (rows : List Row) (n k : ℕ) (d : Row) → k < length rows → IsTable rows n → IsTable (remove rows k) (n - row_len (get_or rows k d))
table_remove rows n k d h t = record {
  rises = rises_remove 0 rows k t.rises;
  kept = kept_remove rows k t.kept;
  len = omega (arith, t.len, len_remove rows k d h);
}

-- a row that comes

kept_push : (rows : List Row) (s : Row) → IsTableRow s → AreTableRows rows → AreTableRows (rows ++ s ∷ [])
kept_push [] s h a = (h, tt)
kept_push (x ∷ xs) s h a = (a.0, kept_push xs s h a.1)

len_push : (rows : List Row) (s : Row) → rows_len (rows ++ s ∷ []) ≡ rows_len rows + row_len s
len_push [] s = omega arith
len_push (x ∷ xs) s = omega (arith, len_push xs s)

pub table_push : (rows : List Row) (n : ℕ) (s : Row) → All (λ r. r.id.0 < s.id.0) rows → IsTableRow s → IsTable rows n →
    IsTable (rows ++ s ∷ []) (n + row_len s)
table_push rows n s above kept t = record {
  rises = rises_push 0 rows s (omega arith) above t.rises;
  kept = kept_push rows s kept t.kept;
  len = omega (arith, t.len, len_push rows s);
}

kept_insert : (rows : List Row) (k : ℕ) (s : Row) → IsTableRow s → AreTableRows rows → AreTableRows (insert rows k s)
kept_insert [] zero s h a = (h, tt)
kept_insert [] (suc k) s h a = (h, tt)
kept_insert (x ∷ xs) zero s h a = (h, a)
kept_insert (x ∷ xs) (suc k) s h a = (a.0, kept_insert xs k s h a.1)

insert_len : (rows : List Row) (k : ℕ) (s : Row) → k ≤ length rows → rows_len (insert rows k s) ≡ rows_len rows + row_len s
insert_len rows zero s h = omega arith
insert_len [] (suc k) s h = absurd (omega arith)
insert_len (x ∷ xs) (suc k) s h = omega (arith, insert_len xs k s (omega arith))

pub table_insert : (rows : List Row) (n k : ℕ) (s : Row) → IsRowGap rows s.id.0 k → IsTableRow s → IsTable rows n →
    IsTable (insert rows k s) (n + row_len s)
table_insert rows n k s gap kept t = record {
  rises = rises_insert 0 rows k s (omega arith) gap t.rises;
  kept = kept_insert rows k s kept t.kept;
  len = omega (arith, t.len, insert_len rows k s gap.in_range);
}
