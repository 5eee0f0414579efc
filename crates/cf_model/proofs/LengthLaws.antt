-- The length of a row, and of an image, is that of its bytes.
use Rattle.std.proofs.Common.{List, [], ◌∷◌, ◌++◌, refl, ◌≡◌, ◌∙◌, arith, ℕ, Bool, true, false, ◌+◌, ◌<◌, ◌*◌, length, length-append, eq-eqb, ne_eqb}
use Rattle.std.specs.Prelude.{zero, suc, cond, ◌==◌}
use Rattle.std.specs.List.{flat_map}
use Rattle.cf_base.specs.declared.answers.AuxRecord.{AuxRecord}
use Rattle.cf_base.specs.declared.ids.Usn.{Usn}
use Rattle.cf_base.specs.declared.spans.Span.{Span}
use Rattle.cf_model.specs.Blocks.{blocks_holding}
use Rattle.cf_model.specs.Books.{Book, usn_bytes}
use Rattle.cf_model.specs.Images.{aux_len, count_runs, row_len, runs_from, with_place, writes_since}
use Rattle.cf_model.specs.Items.{Item, covered_flags, here_flags, modified_flags}
use Rattle.cf_model.specs.Rows.{Extent, Row, row_of, spell_extent, spell_extents, spell_head, spell_row, spell_run, spell_runs, spell_sets, spell_texts}
use Rattle.cf_model.specs.Formats.{Image, spell_header, spell_image, spell_record, spell_records, spell_rows}
use Rattle.cf_model.specs.Words.{in_bytes}

pub in_bytes-length : (k n : ℕ) → length (in_bytes k n) ≡ k
in_bytes-length zero n = refl
in_bytes-length (suc k) n = λ i. suc (in_bytes-length k n i)

-- runs

starts : List Bool → Bool
starts [] = false
starts (b ∷ bs) = b

begins : ℕ → List Span → Bool
begins at [] = false
begins at (r ∷ rs) = r.start == at

length-with_place : (at : ℕ) (rs : List Span) → length (with_place at rs) ≡ length rs + cond (begins (at + 1) rs) 0 1
unfolding begins
length-with_place at [] = refl
length-with_place at (r ∷ rs) = by (r.start == at + 1) where
  by : (b : Bool) → length (cond b (record { start = at; len = r.len + 1 } ∷ rs) (record { start = at; len = 1 } ∷ r ∷ rs)) ≡ length (r ∷ rs) + cond b 0 1
  by true = omega arith
  by false = omega arith

begins-with_place : (m at : ℕ) (rs : List Span) → begins m (with_place at rs) ≡ (at == m)
unfolding begins
begins-with_place m at [] = refl
begins-with_place m at (r ∷ rs) = by (r.start == at + 1) where
  by : (b : Bool) → begins m (cond b (record { start = at; len = r.len + 1 } ∷ rs) (record { start = at; len = 1 } ∷ r ∷ rs)) ≡ (at == m)
  by true = refl
  by false = refl

not-begins : (at m : ℕ) (bs : List Bool) → at < m → begins at (runs_from m bs) ≡ false
unfolding begins
not-begins at m [] h = refl
not-begins at m (true ∷ bs) h = begins-with_place at m (runs_from (m + 1) bs) ∙ ne_eqb m at (λ e. omega (arith, e, h))
not-begins at m (false ∷ bs) h = not-begins at (m + 1) bs (omega (arith, h))

begins-runs : (at : ℕ) (bs : List Bool) → begins at (runs_from at bs) ≡ starts bs
unfolding begins starts
begins-runs at [] = refl
begins-runs at (true ∷ bs) = begins-with_place at at (runs_from (at + 1) bs) ∙ eq-eqb at at refl
begins-runs at (false ∷ bs) = not-begins at (at + 1) bs (omega arith)

count-starts : (bs : List Bool) → count_runs false bs ≡ count_runs true bs + cond (starts bs) 1 0
unfolding starts
count-starts [] = refl
count-starts (true ∷ bs) = omega arith
count-starts (false ∷ bs) = omega arith

one-more : (n c : ℕ) (b : Bool) → n ≡ c + cond b 1 0 → n + cond b 0 1 ≡ 1 + c
one-more n c true e = omega (arith, e)
one-more n c false e = omega (arith, e)

length-runs : (at : ℕ) (bs : List Bool) → length (runs_from at bs) ≡ count_runs false bs
length-runs at [] = refl
length-runs at (false ∷ bs) = length-runs (at + 1) bs
length-runs at (true ∷ bs) =
    length-with_place at (runs_from (at + 1) bs) ∙ (λ i. length-runs (at + 1) bs i + cond (begins-runs (at + 1) bs i) 0 1)
    ∙ one-more (count_runs false bs) (count_runs true bs) (starts bs) (count-starts bs)

-- fields

length-run : (r : Span) → length (spell_run r) ≡ 8
length-run r = length-append (in_bytes 4 r.start) (in_bytes 4 r.len) ∙ (λ i. in_bytes-length 4 r.start i + in_bytes-length 4 r.len i)

length-all : {A : Type 0} (f : A → List ℕ) (n : ℕ) → ((x : A) → length (f x) ≡ n) → (xs : List A) → length (flat_map f xs) ≡ n * length xs
length-all f n h [] = omega arith
length-all f n h (x ∷ xs) = length-append (f x) (flat_map f xs) ∙ (λ i. h x i + length-all f n h xs i) ∙ omega arith

length-runs-spelled : (rs : List Span) → length (spell_runs rs) ≡ 4 + 8 * length rs
length-runs-spelled rs = length-append (in_bytes 4 (length rs)) (flat_map spell_run rs) ∙ (λ i. in_bytes-length 4 (length rs) i + length-all spell_run 8 length-run rs i)

length-extent : (e : Extent) → length (spell_extent e) ≡ 8
length-extent e = length-append (in_bytes 4 e.block) (in_bytes 4 e.cluster) ∙ (λ i. in_bytes-length 4 e.block i + in_bytes-length 4 e.cluster i)

length-extents : (es : List Extent) → length (spell_extents es) ≡ 4 + 8 * length es
length-extents es = length-append (in_bytes 4 (length es)) (flat_map spell_extent es) ∙ (λ i. in_bytes-length 4 (length es) i + length-all spell_extent 8 length-extent es i)

-- the length of two parts is known from theirs
joined : {A : Type 0} (xs ys : List A) (m n : ℕ) → length xs ≡ m → length ys ≡ n → length (xs ++ ys) ≡ m + n
joined xs ys m n h k = length-append xs ys ∙ (λ i. h i + k i)

more : {A : Type 0} (x : A) (xs : List A) (n : ℕ) → length xs ≡ n → length (x ∷ xs) ≡ 1 + n
more x xs n h = omega (arith, h)

length-usn : (n : Usn) → length (usn_bytes n) ≡ 8
length-usn n = joined (in_bytes 4 n.epoch) (in_bytes 4 n.place) 4 4 (in_bytes-length 4 n.epoch) (in_bytes-length 4 n.place)

length-head : (r : Row) → length (spell_head r) ≡ 51
length-head r = refl

length-texts : (r : Row) → length (spell_texts r) ≡ 3 + length r.name + length r.identity
length-texts r = grind (arith, length-append)

length-sets : (r : Row) → length (spell_sets r) ≡ 20 + 8 * (length r.here + length r.valid + length r.modified + length r.modified_since + length r.extents)
length-sets r =
    joined (spell_runs r.here ++ spell_runs r.valid ++ spell_runs r.modified ++ spell_runs r.modified_since) (spell_extents r.extents) _ _
    (joined (spell_runs r.here ++ spell_runs r.valid ++ spell_runs r.modified) (spell_runs r.modified_since) _ _
    (joined (spell_runs r.here ++ spell_runs r.valid) (spell_runs r.modified) _ _
    (joined (spell_runs r.here) (spell_runs r.valid) _ _ (length-runs-spelled r.here) (length-runs-spelled r.valid))
    (length-runs-spelled r.modified))
    (length-runs-spelled r.modified_since))
    (length-extents r.extents)
    ∙ omega arith

length-row : (r : Row) → length (spell_row r) ≡ 74 + length r.name + length r.identity + 8 * (length r.here + length r.valid + length r.modified + length r.modified_since + length r.extents)
length-row r = joined (spell_head r ++ spell_texts r) (spell_sets r) _ _ (joined (spell_head r) (spell_texts r) _ _ (length-head r) (length-texts r)) (length-sets r) ∙ omega arith

by_counts : (n m a b c d e f g h k : ℕ) → f ≡ a → g ≡ b → h ≡ c → k ≡ d → 74 + n + m + 8 * (f + g + h + k + e) ≡ 74 + n + m + 8 * (a + b + c + d + e)
by_counts n m a b c d e f g h k p q r s = λ i. 74 + n + m + 8 * (p i + q i + r i + s i + e)

pub row_length : (b : Book) (es : List Extent) (i : Item) → length es ≡ length (blocks_holding i.held) → length (spell_row (row_of b es i)) ≡ row_len b i
row_length b es i h =
    length-row (row_of b es i)
    ∙ by_counts (length i.name) (length i.identity) _ _ _ _ (length es) _ _ _ _ (length-runs 0 (here_flags i)) (length-runs 0 i.valid) (length-runs 0 (modified_flags i)) (length-runs 0 (covered_flags (writes_since b i) i))
    ∙ (λ j. 74 + length i.name + length i.identity + 8 * (count_runs false (here_flags i) + count_runs false i.valid + count_runs false (modified_flags i) + count_runs false (covered_flags (writes_since b i) i) + h j))

pub record_length : (r : AuxRecord) → length (spell_record r) ≡ aux_len r
record_length r = grind (arith, length-append)

pub image_length : (image : Image) → length (spell_image image) ≡ 41 + length (flat_map spell_row image.rows) + length (flat_map spell_record image.records)
image_length image =
    joined (2 ∷ spell_header image.header ++ spell_rows image.rows) (spell_records image.records) _ _
    (joined (2 ∷ spell_header image.header) (spell_rows image.rows) 33 _ refl
    (joined (in_bytes 4 (length image.rows)) (flat_map spell_row image.rows) _ _ (in_bytes-length 4 (length image.rows)) refl))
    (joined (in_bytes 4 (length image.records)) (flat_map spell_record image.records) _ _ (in_bytes-length 4 (length image.records)) refl)
    ∙ omega arith
