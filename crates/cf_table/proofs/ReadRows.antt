-- Rows as they are read, one after the other.
use Rattle.std.proofs.Common.{◌≡◌, ℕ, zero, suc, ◌+◌, ◌<◌, List, [], ◌∷◌, ◌++◌, length, length-append, refl, sym, ap, subst, ◌∙◌, append_assoc, append-nil, arith, inl, inr, Option, Some, None}
use Rattle.std.specs.Prelude.{All, map}
use Rattle.std.proofs.lemmas.List.Elements.{All-cons, All-nil}
use Rattle.cf_codec.specs.Left.{Left, Takes}
use Rattle.cf_codec.specs.declared.formats.Format.{Format}
use Rattle.cf_model.specs.Rows as model
use Rattle.cf_table.specs.Faults.{AtRow, AtRows}
use Rattle.cf_table.specs.Reading.{AreRowsIn, IsAbove, IsRowIn}
use Rattle.cf_table.specs.Spelling.{row_value, spell_each_in, spell_row_in}
use Rattle.cf_table.specs.declared.failures.RowError.{RowError}
use Rattle.cf_table.specs.declared.failures.RowError.TheVariants.{OutOfMemory}
use Rattle.cf_table.specs.declared.rows.Row.{Row}
use Rattle.cf_table.proofs.Taken.{takes_both}

pub row_fault : (f : Format) (before : Option ℕ) (n m : ℕ) (left : Left) (e : RowError) → n ≡ suc m → AtRow f before left e → AtRows f before n left e
row_fault f before n m left e is h = rw is (inl h)

pub behind_row : (f : Format) (before : Option ℕ) (n m : ℕ) (left mid : Left) (e : RowError) (r : model.Row) → n ≡ suc m → IsRowIn f before r → Takes (spell_row_in f r) left mid → AtRows f (Some r.id.0) m mid e → AtRows f before n left e
behind_row f before n m left mid e r is fits takes h = rw is (inr (record { part = r; is_part = fits; mid = mid; takes = takes; fault = h }))

pub no_memory_for_rows : (f : Format) (before : Option ℕ) (n : ℕ) (left : Left) → AtRows f before n left OutOfMemory
no_memory_for_rows f before zero left = tt
no_memory_for_rows f before (suc n) left = inl (inl (inl (inl tt)))

each_more : (f : Format) (xs : List Row) (r : Row) → spell_each_in f (xs ++ r ∷ []) ≡ spell_each_in f xs ++ spell_row_in f (row_value r)
each_more f [] r = append-nil (spell_row_in f (row_value r))
each_more f (x ∷ xs) r = ap (λ t. spell_row_in f (row_value x) ++ t) (each_more f xs r) ∙ sym (append_assoc (spell_row_in f (row_value x)) (spell_each_in f xs) (spell_row_in f (row_value r)))

pub each_taken : (f : Format) (all xs : List Row) (r : Row) (old mid new : Left) → all ≡ xs ++ r ∷ [] → Takes (spell_each_in f xs) old mid → Takes (spell_row_in f (row_value r)) mid new → Takes (spell_each_in f all) old new
each_taken f all xs r old mid new is h k = subst (λ (t : List ℕ). Takes t old new) (sym (ap (spell_each_in f) is ∙ each_more f xs r)) (takes_both h k)

pub count_more : (all xs : List Row) (r : Row) (n : ℕ) → all ≡ xs ++ r ∷ [] → length xs ≡ n → length all ≡ n + 1
count_more all xs r n is h = ap length is ∙ omega (arith, h, length-append xs (r ∷ []))

rows_more : (xs : List Row) (r : Row) (more : List model.Row) → map row_value (xs ++ r ∷ []) ++ more ≡ map row_value xs ++ (row_value r ∷ more)
rows_more [] r more = refl
rows_more (x ∷ xs) r more = ap (λ t. row_value x ∷ t) (rows_more xs r more)

pub rows_then : (f : Format) (before : Option ℕ) (all xs : List Row) (r : Row) → all ≡ xs ++ r ∷ [] → ((more : List model.Row) → AreRowsIn f before more → AreRowsIn f None (map row_value xs ++ more)) → IsRowIn f before (row_value r) →
    (more : List model.Row) → AreRowsIn f (Some r.id.0) more → AreRowsIn f None (map row_value all ++ more)
rows_then f before all xs r is so fits more h = subst (λ (t : List model.Row). AreRowsIn f None t) (sym (ap (λ v. map row_value v ++ more) is ∙ rows_more xs r more)) (so (row_value r ∷ more) (fits, h))

pub rows_end : (f : Format) (before : Option ℕ) (xs : List Row) → ((more : List model.Row) → AreRowsIn f before more → AreRowsIn f None (map row_value xs ++ more)) → AreRowsIn f None (map row_value xs)
rows_end f before xs so = subst (λ (v : List model.Row). AreRowsIn f None v) (append-nil (map row_value xs)) (so [] tt)

-- the ids of the rows are below this one
abbrev pub AreBelow : ℕ → List Row → Type 0
AreBelow id [] = Unit {0}
AreBelow id (r ∷ rs) = (r.id.0 < id) × AreBelow id rs

below_more : (xs : List Row) (m n : ℕ) → m < n → AreBelow m xs → AreBelow n xs
below_more [] m n h all = tt
below_more (x ∷ xs) m n h all = (omega (arith, h, all.0), below_more xs m n h all.1)

below_append : (xs : List Row) (r : Row) (n : ℕ) → AreBelow n xs → r.id.0 < n → AreBelow n (xs ++ r ∷ [])
below_append [] r n all h = (h, tt)
below_append (x ∷ xs) r n all h = (all.0, below_append xs r n all.1 h)

pub above_then : (before : Option ℕ) (all xs : List Row) (r : Row) → all ≡ xs ++ r ∷ [] → ((id : ℕ) → IsAbove before id → AreBelow id xs) → IsAbove before r.id.0 →
    (id : ℕ) → r.id.0 < id → AreBelow id all
above_then before all xs r is so above id h =
    subst (λ (v : List Row). AreBelow id v) (sym is) (below_append xs r id (below_more xs r.id.0 id h (so r.id.0 above)) h)

pub all_below : (id : ℕ) (xs : List Row) → AreBelow id xs → All (λ r. r.id.0 < id) xs
all_below id [] h = All-nil (λ (r : Row). r.id.0 < id)
all_below id (x ∷ xs) h = All-cons (λ (r : Row). r.id.0 < id) x xs h.0 (all_below id xs h.1)
