-- A row that means an item, and has what the book says of it, is the row that the definitions make of the item.
use Rattle.std.proofs.Common.{◌≡◌, ℕ, zero, suc, inl, inr, ◌+◌, ◌-◌, ◌^◌, ◌<◌, ◌≤◌, Bool, true, false, ◌&&◌, ◌||◌, not, cond, List, [], ◌∷◌, length, refl, sym, ap, ◌∙◌, arith, ltb, is_some}
use Rattle.std.specs.Prelude.{All, filter, map, sum_by}
use Rattle.std.proofs.lemmas.Bool.{cases_lt, le-ltb}
use Rattle.std.proofs.lemmas.Bool.Decides.{nat_tests}
use Rattle.std.proofs.lemmas.List.Sums.{sum_by-cons}
use Rattle.std.proofs.lemmas.List.Elements.{All-cons, All-head, All-nil}
use Rattle.cf_base.specs.declared.spans.Span.{Span}
use Rattle.cf_model.specs.Blocks.{block_has_byte, blocks_holding, blocks_in}
use Rattle.cf_model.specs.Books.{Book, access_of, anchor_of, no_book}
use Rattle.cf_model.specs.Effects.{later_than}
use Rattle.cf_model.specs.Images.{runs_of, writes_since}
use Rattle.cf_model.specs.Images as image
use Rattle.cf_model.specs.Items.{Item, covered_flags, here_flags, modified_flags, root}
use Rattle.cf_model.specs.Overlay.{Written, is_covered}
use Rattle.cf_model.specs.Rows.{row_of, spell_row}
use Rattle.cf_model.specs.Words.{counting, is_empty, passes_at}
use Rattle.cf_model.proofs.LengthLaws as model
use Rattle.cf_ranges.specs.Positions.{IsRuns, IsRunsFrom, contains, within}
use Rattle.cf_ranges.proofs.One.{one_list}
use Rattle.cf_table.specs.Booked.{AreRowsOf, IsRowOf}
use Rattle.cf_table.specs.Means.{IsFresh, Means}
use Rattle.cf_table.specs.Spelling.{EndBelow, HasRoom, extent_of, row_value}
use Rattle.cf_table.specs.Tables.{AreTableRows, IsStored, IsTableRow, MeansAll, row_len, rows_len}
use Rattle.cf_table.specs.declared.rows.Row.{Row}
use Rattle.cf_table.proofs.Lengths.{row_length}
use Rattle.cf_model.proofs.Places.{passes_past}
use Rattle.cf_table.proofs.RunsOf.{covered_at, held_flags, length_flags, length_held, runs_of_contain, runs_of_runs}

-- a set is the runs of flags

set_is : (runs : List Span) (flags : List Bool) → IsRuns runs → length flags ≤ 2 ^ 40 → ((p : ℕ) → contains runs p ≡ passes_at (λ b. b) flags p) → runs ≡ runs_of flags
set_is runs flags r le same = one_list 0 0 runs (runs_of flags) r (runs_of_runs flags le) (λ p. same p ∙ sym (runs_of_contain flags p))

here_is : (r : Row) (i : Item) → IsStored r → Means r i → r.here ≡ runs_of (here_flags i)
here_is r i s m = set_is r.here (here_flags i) s.here (omega (arith, length_held i.held, m.bytes.size, s.size)) (λ p. m.bytes.here p ∙ sym (held_flags i.held p))

valid_is : (r : Row) (i : Item) → IsStored r → Means r i → r.valid ≡ runs_of i.valid
valid_is r i s m = set_is r.valid i.valid s.valid (omega (arith, m.bytes.even, m.bytes.size, s.size)) m.bytes.valid

covered_is : (runs : List Span) (ws : List Written) (i : Item) → IsRuns runs → length i.held ≤ 2 ^ 40 → ((p : ℕ) → contains runs p ≡ (ltb p (length i.held) && is_covered ws p)) → runs ≡ runs_of (covered_flags ws i)
covered_is runs ws i r le same = set_is runs (covered_flags ws i) r (omega (arith, length_flags (λ p. is_covered ws p) 0 i.held)) (λ p. same p ∙ sym (covered_at (λ q. is_covered ws q) p i.held))

pub row_is_of_item : (b : Book) (r : Row) (i : Item) → IsStored r → Means r i → r.anchor ≡ anchor_of b i.id → r.last ≡ access_of b i.id → row_value r ≡ row_of b (map extent_of r.extents) i
row_is_of_item b r i s m anchor last =
    let here : r.here ≡ runs_of (here_flags i) = here_is r i s m in
    let valid : r.valid ≡ runs_of i.valid = valid_is r i s m in
    let short : length i.held ≤ 2 ^ 40 = omega (arith, m.bytes.size, s.size) in
    let modified : r.modified ≡ runs_of (modified_flags i) = covered_is r.modified i.writes i s.modified short m.bytes.modified in
    let since : r.modified_since ≡ runs_of (covered_flags (writes_since b i) i) =
    covered_is r.modified_since (writes_since b i) i s.modified_since short (λ p. m.bytes.modified_since p ∙ ap (λ n. ltb p (length i.held) && is_covered (later_than n i.writes) p) anchor) in
    let dirty_since : r.dirty_since ≡ not (is_empty (writes_since b i)) = m.bytes.dirty_since ∙ ap (λ n. not (is_empty (later_than n i.writes))) anchor in
    λ j. record {
      id = m.id j;
      parent = m.parent j;
      directory = m.directory j;
      placeholder = m.placeholder j;
      populated = m.populated j;
      in_sync = m.in_sync j;
      dirty = m.bytes.dirty j;
      dirty_since = dirty_since j;
      keep = m.keep j;
      pin = m.pin j;
      size = m.bytes.size j;
      base = m.base j;
      number = m.number j;
      anchor = anchor j;
      last = last j;
      name = m.name j;
      identity = m.identity j;
      here = here j;
      valid = valid j;
      modified = modified j;
      modified_since = since j;
      extents = map extent_of r.extents;
    }

-- lengths

length_extents : (es : List (ℕ × ℕ)) (blocks : List ℕ) → map (λ (e : ℕ × ℕ). e.0) es ≡ blocks → length (map extent_of es) ≡ length blocks
length_extents es blocks h = both es ∙ ap length h where
  both : (es : List (ℕ × ℕ)) → length (map extent_of es) ≡ length (map (λ (e : ℕ × ℕ). e.0) es)
  both [] = refl
  both (e ∷ es) = ap suc (both es)

pub row_len_is : (b : Book) (r : Row) (i : Item) → IsStored r → IsRowOf b r i → row_len r ≡ image.row_len b i
row_len_is b r i s is =
    sym (row_length r) ∙ ap (λ v. length (spell_row v)) (row_is_of_item b r i s is.means is.anchor is.last)
    ∙ model.row_length b (map extent_of r.extents) i (length_extents r.extents (blocks_holding i.held) is.blocks)

pub rows_len_is : (b : Book) (rows : List Row) (items : List Item) → AreTableRows rows → AreRowsOf b rows items → rows_len rows ≡ sum_by (image.row_len b) items
rows_len_is b [] [] t is = refl
rows_len_is b [] (i ∷ is') t is = absurd is
rows_len_is b (r ∷ rs) [] t is = absurd is
rows_len_is b (r ∷ rs) (i ∷ is') t is =
    ap (λ n. n + rows_len rs) (row_len_is b r i t.0.stored is.0) ∙ ap (λ n. image.row_len b i + n) (rows_len_is b rs is' t.1 is.1) ∙ sym (sum_by-cons (image.row_len b) i is')

pub means_all : (b : Book) (rows : List Row) (items : List Item) → AreRowsOf b rows items → MeansAll rows items
means_all b [] [] is = tt
means_all b [] (i ∷ is') is = absurd is
means_all b (r ∷ rs) [] is = absurd is
means_all b (r ∷ rs) (i ∷ is') is = (is.0.means, means_all b rs is' is.1)

-- room

last_of_run : (s : Span) (ss : List Span) (p : ℕ) → s.start ≤ p → p < s.start + s.len → contains (s ∷ ss) p ≡ true
last_of_run s ss p h k = inside s.start (s.start + s.len) p (contains ss p) h k where
  inside : (from to p : ℕ) (b : Bool) → from ≤ p → p < to → (within from to p || b) ≡ true
  inside from to p b h k = grind (arith, nat_tests)

rest_of_runs : (s : Span) (b : Bool) (p : ℕ) → b ≡ true → (within s.start (s.start + s.len) p || b) ≡ true
rest_of_runs s b p h = either (within s.start (s.start + s.len) p) b h where
  either : (a b : Bool) → b ≡ true → (a || b) ≡ true
  either true b h = refl
  either false b h = h

ends_below : (low n : ℕ) (runs : List Span) → n < 2 ^ 32 → IsRunsFrom low runs → ((p : ℕ) → contains runs p ≡ true → p < n) → EndBelow runs
ends_below low n [] h r below = All-nil (λ s. s.start + s.len < 2 ^ 32)
ends_below low n (s ∷ ss) h r below =
    All-cons (λ s. s.start + s.len < 2 ^ 32) s ss
    (let last : s.start + s.len - 1 < n = below (s.start + s.len - 1) (last_of_run s ss (s.start + s.len - 1) (omega (arith, r.1)) (omega (arith, r.1))) in omega (arith, r.1))
    (ends_below (s.start + s.len + 1) n ss h r.3 (λ p c. below p (rest_of_runs s (contains ss p) p c)))

passes_below : {A : Type 0} (f : A → Bool) (xs : List A) (p : ℕ) → passes_at f xs p ≡ true → p < length xs
passes_below f xs p h = elim (cases_lt p (length xs)) [
  | inl lt ↦ lt
  | inr ge ↦ let z : true ≡ false = sym h ∙ passes_past f xs p ge in absurd cc
]

first_true : (p n : ℕ) (b : Bool) → (ltb p n && b) ≡ true → p < n
first_true p n b h = elim (cases_lt p n) [
  | inl lt ↦ lt
  | inr ge ↦ let z : true ≡ false = sym h ∙ ap (λ v. v && b) (le-ltb p n ge) in absurd cc
]

pub has_room : (r : Row) (i : Item) → IsTableRow r → Means r i → length r.extents < 2 ^ 32 → HasRoom r
has_room r i t m short =
    let small : length i.held < 2 ^ 32 = omega (arith, m.bytes.size, t.stored.size) in
    record {
      texts = t.spellable;
      here = ends_below 0 (length i.held) r.here small t.stored.here (λ p c. passes_below is_some i.held p (sym (m.bytes.here p) ∙ c));
      valid = ends_below 0 (length i.held) r.valid small t.stored.valid (λ p c. omega (arith, m.bytes.even, passes_below (λ b. b) i.valid p (sym (m.bytes.valid p) ∙ c)));
      modified = ends_below 0 (length i.held) r.modified small t.stored.modified (λ p c. first_true p (length i.held) (is_covered i.writes p) (sym (m.bytes.modified p) ∙ c));
      modified_since = ends_below 0 (length i.held) r.modified_since small t.stored.modified_since (λ p c. first_true p (length i.held) (is_covered (later_than r.anchor i.writes) p) (sym (m.bytes.modified_since p) ∙ c));
      extents = short;
    }

fewer : {A : Type 0} (f : A → Bool) (xs : List A) → length (filter f xs) ≤ length xs
fewer f [] = omega arith
fewer f (x ∷ xs) = by (fewer f xs) (f x) where
  by : length (filter f xs) ≤ length xs → (b : Bool) → length (cond b (x ∷ filter f xs) (filter f xs)) ≤ suc (length xs)
  by rest true = omega arith
  by rest false = omega arith

counted : (at n : ℕ) → length (counting at n) ≡ n
counted at zero = refl
counted at (suc n) = ap suc (counted (at + 1) n)

few_extents : (r : Row) (i : Item) → length i.held < 2 ^ 32 → map (λ (e : ℕ × ℕ). e.0) r.extents ≡ blocks_holding i.held → length r.extents < 2 ^ 32
few_extents r i h is =
    omega (arith, names r.extents, ap length is, fewer (block_has_byte i.held) (counting 0 (blocks_in (length i.held))), counted 0 (blocks_in (length i.held))) where
      names : (es : List (ℕ × ℕ)) → length (map (λ (e : ℕ × ℕ). e.0) es) ≡ length es
      names [] = refl
      names (e ∷ es) = ap suc (names es)

pub rows_have_room : (b : Book) (rows : List Row) (items : List Item) → AreTableRows rows → AreRowsOf b rows items → All HasRoom rows
rows_have_room b [] [] t is = All-nil HasRoom
rows_have_room b [] (i ∷ is') t is = absurd is
rows_have_room b (r ∷ rs) [] t is = absurd is
rows_have_room b (r ∷ rs) (i ∷ is') t is =
    All-cons HasRoom r rs (has_room r i t.0 is.0.means (few_extents r i (omega (arith, is.0.means.bytes.size, t.0.stored.size)) is.0.blocks)) (rows_have_room b rs is' t.1 is.1)

-- the rows of a new volume

pub new_rows_are_of_items : (rows : List Row) → MeansAll rows (root ∷ []) → All IsFresh rows → AreRowsOf no_book rows (root ∷ [])
new_rows_are_of_items [] m f = m
new_rows_are_of_items (r ∷ []) m f =
    let fresh : IsFresh r = All-head IsFresh r [] f in
    (record { means = m.0; anchor = fresh.anchor; last = fresh.last; blocks = ap (λ (es : List (ℕ × ℕ)). map (λ (e : ℕ × ℕ). e.0) es) fresh.extents }, tt)
new_rows_are_of_items (r ∷ s ∷ ss) m f = absurd m.1
