-- How long what is spelled is, and the items of rows that are looked up.
use Rattle.std.proofs.Common.{◌≡◌, ℕ, suc, ◌+◌, ◌*◌, Bool, true, false, cond, List, [], ◌∷◌, ◌++◌, length, refl, ap, ◌∙◌, arith, eqb, Some, None, length-append}
use Rattle.std.specs.Prelude.{MatchOption, map}
use Rattle.cf_base.specs.declared.ids.ItemId.{ItemId}
use Rattle.cf_base.specs.declared.spans.Span.{Span}
use Rattle.cf_model.specs.Formats.{spell_rows}
use Rattle.cf_model.specs.Items.{Item, item_of}
use Rattle.cf_model.specs.Rows.{spell_extents, spell_head, spell_row, spell_runs, spell_sets, spell_texts}
use Rattle.cf_model.specs.Words.{in_bytes}
use Rattle.cf_table.specs.Means.{Means}
use Rattle.cf_table.specs.Spelling.{extent_of, row_value, spell_each, spell_pairs, spell_spans}
use Rattle.cf_table.specs.Tables.{MeansAll, row_len, row_of, rows_len}
use Rattle.cf_table.specs.declared.rows.Row.{Row}
use Rattle.cf_table.proofs.TableMeans.{same_id}

pub same_count : (rows : List Row) → length (map row_value rows) ≡ length rows
same_count [] = refl
same_count (r ∷ rs) = ap suc (same_count rs)

spans_length : (runs : List Span) → length (spell_spans runs) ≡ 8 * length runs
spans_length [] = refl
spans_length (r ∷ rs) = omega (arith, spans_length rs)

pairs_length : (pairs : List (ℕ × ℕ)) → length (spell_pairs pairs) ≡ 8 * length pairs
pairs_length [] = refl
pairs_length (p ∷ ps) = omega (arith, pairs_length ps)

set_length : (runs : List Span) → length (spell_runs runs) ≡ 4 + 8 * length runs
set_length runs = omega (arith, spans_length runs)

extents_length : (pairs : List (ℕ × ℕ)) → length (spell_extents (map extent_of pairs)) ≡ 4 + 8 * length pairs
extents_length pairs = omega (arith, pairs_length pairs)

texts_length : (name identity : List ℕ) → length ((length name ∷ name) ++ in_bytes 2 (length identity) ++ identity) ≡ 3 + length name + length identity
texts_length name identity = omega (arith, length-append ((length name ∷ name) ++ in_bytes 2 (length identity)) identity, length-append (length name ∷ name) (in_bytes 2 (length identity)))

sets_length : (a b c d : List Span) (e : List (ℕ × ℕ)) → length (spell_runs a ++ spell_runs b ++ spell_runs c ++ spell_runs d ++ spell_extents (map extent_of e)) ≡ 20 + 8 * (length a + length b + length c + length d + length e)
sets_length a b c d e =
    omega (
      arith,
      length-append (spell_runs a ++ spell_runs b ++ spell_runs c ++ spell_runs d) (spell_extents (map extent_of e)),
      length-append (spell_runs a ++ spell_runs b ++ spell_runs c) (spell_runs d),
      length-append (spell_runs a ++ spell_runs b) (spell_runs c),
      length-append (spell_runs a) (spell_runs b),
      set_length a,
      set_length b,
      set_length c,
      set_length d,
      extents_length e,
    )

three : (head texts sets : List ℕ) (n m : ℕ) → length head ≡ 51 → length texts ≡ n → length sets ≡ m → length (head ++ texts ++ sets) ≡ 51 + n + m
three head texts sets n m a b c = omega (arith, length-append (head ++ texts) sets, length-append head texts)

sum_up : (a b n s : ℕ) → n ≡ 51 + (3 + a + b) + (20 + 8 * s) → n ≡ 74 + a + b + 8 * s
sum_up a b n s e = omega arith

pub row_length : (r : Row) → length (spell_row (row_value r)) ≡ row_len r
row_length r =
    sum_up (length r.name) (length r.identity) (length (spell_row (row_value r))) (length r.here + length r.valid + length r.modified + length r.modified_since + length r.extents)
    (three (spell_head (row_value r)) (spell_texts (row_value r)) (spell_sets (row_value r)) (3 + length r.name + length r.identity)
    (20 + 8 * (length r.here + length r.valid + length r.modified + length r.modified_since + length r.extents)) refl (texts_length r.name r.identity) (sets_length r.here r.valid r.modified r.modified_since r.extents))

each_length : (rows : List Row) → length (spell_each rows) ≡ rows_len rows
each_length [] = refl
each_length (r ∷ rs) = length-append (spell_row (row_value r)) (spell_each rs) ∙ ap (λ n. n + length (spell_each rs)) (row_length r) ∙ ap (λ n. row_len r + n) (each_length rs)

pub spelled_length : (rows : List Row) → length (spell_rows (map row_value rows)) ≡ 4 + rows_len rows
spelled_length rows = length-append (in_bytes 4 (length (map row_value rows))) (spell_each rows) ∙ ap (λ n. 4 + n) (each_length rows)

-- items

pub rows_are_items : (rows : List Row) (items : List Item) (id : ItemId) → MeansAll rows items → MatchOption (row_of rows id) (item_of items id ≡ None) (λ r. (i : Item) × (item_of items id ≡ Some i) × Means r i)
rows_are_items [] [] id m = refl
rows_are_items [] (i ∷ is) id m = absurd m
rows_are_items (x ∷ xs) [] id m = absurd m
rows_are_items (x ∷ xs) (i ∷ is) id m = two (eqb x.id.0 id.0) (eqb i.id.0 id.0) (ap (λ n. eqb n id.0) (same_id x i m.0)) (rows_are_items xs is id m.1) where
  two : (b c : Bool) → b ≡ c → MatchOption (row_of xs id) (item_of is id ≡ None) (λ r. (j : Item) × (item_of is id ≡ Some j) × Means r j) →
      MatchOption (cond b (Some x) (row_of xs id)) (cond c (Some i) (item_of is id) ≡ None) (λ r. (j : Item) × (cond c (Some i) (item_of is id) ≡ Some j) × Means r j)
  two true true e rest = (i, refl, m.0)
  two true false e rest = let z : true ≡ false = e in absurd cc
  two false true e rest = let z : false ≡ true = e in absurd cc
  two false false e rest = rest
