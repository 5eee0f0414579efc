-- In blocks into which a change puts no byte it leaves bytes or takes them. Which blocks hold a byte.
use Rattle.std.proofs.Common.{◌≡◌, ℕ, zero, suc, ◌+◌, ◌-◌, ◌*◌, ◌/◌, ◌<◌, ◌≤◌, Bool, true, false, not, cond, List, [], ◌∷◌, length, map, min, max, refl, sym, ◌∙◌, ap, arith, ◌&&◌, ◌||◌, eqb, inl, inr, ⊎_elim, Option, Some, None, filter}
use Rattle.std.specs.List.{list_all, list_any, slice_range}
use Rattle.std.specs.Option.{is_some}
use Rattle.std.proofs.lemmas.Bool.{cases_lt, eq-eqb, eqb-true, true≢false}
use Rattle.std.proofs.lemmas.List.{length-map}
use Rattle.cf_base.specs.declared.changes.Change.{Change}
use Rattle.cf_base.specs.declared.changes.Change.TheVariants as change
use Rattle.cf_base.specs.declared.ids.Usn.{Usn}
use Rattle.cf_base.specs.declared.items.Pin.{Pin}
use Rattle.cf_base.specs.declared.spans.Span.{Span}
use Rattle.cf_volume_blocks.specs.Bytes.{byte_is, holds_at, is_among, puts_in}
use Rattle.cf_volume_blocks.proofs.Laid.{filled_comes}
use Rattle.cf_volume_blocks.proofs.Puts.{passes_part, part_passes}
use Rattle.cf_volume_blocks.proofs.Unlaid.{left_in, none_in}
use Rattle.cf_model.proofs.Places.{length_resized, passes_past, passes_patched_after, passes_patched_before, passes_resized_old}
use Rattle.cf_model.specs.Blocks.{block_has_byte, blocks_holding, blocks_in, blocks_of, lacks_in}
use Rattle.cf_model.specs.Effects.{filled}
use Rattle.cf_model.specs.Items.{Item, is_held}
use Rattle.cf_model.specs.Overlay.{patched, resized}
use Rattle.cf_model.specs.Words.{counting, passes_at}
use Rattle.cf_ranges.proofs.Blocks.{touches_means}
use Rattle.cf_ranges.specs.Positions.{HasBlock, IsRuns, contains, touches}
use Rattle.cf_table.proofs.Meaning.{length_filled}
use Rattle.cf_table.specs.Applied.{item_effect}

in_counting : (i n b : ℕ) → i ≤ b → b < i + n → is_among (counting i n) b ≡ true
in_counting i zero b low high = absurd (omega arith)
in_counting i (suc n) b low high = elim (cases_lt i b) [
  | inl less ↦ later (eqb i b) (is_among (counting (i + 1) n) b) (in_counting (i + 1) n b (omega arith) (omega arith))
  | inr le ↦ let here : i ≡ b = omega arith in ap (λ (t : Bool). t || is_among (counting (i + 1) n) b) (eq-eqb i b here)
]
  where
    later : (x y : Bool) → y ≡ true → (x || y) ≡ true
    later true y e = refl
    later false y e = e

not_counting : (i n b : ℕ) → i + n ≤ b → is_among (counting i n) b ≡ false
not_counting i zero b high = refl
not_counting i (suc n) b high = neither (eqb i b) (is_among (counting (i + 1) n) b) (apart (eqb i b) refl) (not_counting (i + 1) n b (omega arith))
  where
    neither : (x y : Bool) → x ≡ false → y ≡ false → (x || y) ≡ false
    neither x y p q = ap (λ (t : Bool). t || y) p ∙ q

    apart : (x : Bool) → eqb i b ≡ x → eqb i b ≡ false
    apart true e = absurd (omega (arith, eqb-true i b e))
    apart false e = e

in_span_blocks : (start len p : ℕ) → start ≤ p → p < start + len → is_among (blocks_of start len) (p / 4096) ≡ true
in_span_blocks start zero p low high = absurd (omega arith)
in_span_blocks start (suc n) p low high = in_counting (start / 4096) ((start + n) / 4096 + 1 - start / 4096) (p / 4096) (omega arith) (omega arith)

pub among_filter : (f : ℕ → Bool) (xs : List ℕ) (b : ℕ) → is_among (filter f xs) b ≡ (is_among xs b && f b)
among_filter f [] b = refl
among_filter f (x ∷ xs) b = by (f x) refl (eqb x b) refl (among_filter f xs b)
  where
    by : (t : Bool) → f x ≡ t → (e : Bool) → eqb x b ≡ e → is_among (filter f xs) b ≡ (is_among xs b && f b) → is_among (cond t (x ∷ filter f xs) (filter f xs)) b ≡ ((e || is_among xs b) && f b)
    by true p true q h = ap (λ (c : Bool). c || is_among (filter f xs) b) q ∙ sym (ap f (sym (eqb-true x b q)) ∙ p)
    by true p false q h = ap (λ (c : Bool). c || is_among (filter f xs) b) q ∙ h
    by false p true q h = h ∙ both (is_among xs b) (f b) (ap f (sym (eqb-true x b q)) ∙ p) ∙ sym (ap f (sym (eqb-true x b q)) ∙ p)
      where
        both : (c d : Bool) → d ≡ false → (c && d) ≡ false
        both true d e = e
        both false d e = refl
    by false p false q h = h

contradiction : {A : Type 0} (b : Bool) → b ≡ true → b ≡ false → A
contradiction {A} b p q = absurd (true≢false (sym p ∙ q))

wrote_elsewhere : (at : ℕ) (bytes : List ℕ) (held : List (Option ℕ)) (p v : ℕ) → is_among (blocks_of (min at (length held)) (at + length bytes - min at (length held))) (p / 4096) ≡ false
    → holds_at (patched (Some 0) at (map Some bytes) held) p v ≡ true → holds_at held p v ≡ true
wrote_elsewhere at bytes held p v out h = elim (cases_lt p (min at (length held))) [
  | inl before ↦ sym (passes_patched_before (byte_is v) (Some 0) at (map Some bytes) held p (omega arith) (omega arith)) ∙ h
  | inr from ↦ elim (cases_lt p (at + length bytes)) [
    | inl inside ↦ contradiction _ (in_span_blocks (min at (length held)) (at + length bytes - min at (length held)) p from (omega arith)) out
    | inr past ↦ sym (passes_patched_after (byte_is v) (Some 0) at (map Some bytes) held p (past_map past)) ∙ h
  ]
]
  where
    past_map : at + length bytes ≤ p → at + length (map Some bytes) ≤ p
    past_map past = let e = length-map bytes Some in omega (arith, e, past)

sized_elsewhere : (size : ℕ) (held : List (Option ℕ)) (p v : ℕ) → is_among (blocks_of (length held) (size - length held)) (p / 4096) ≡ false → holds_at (resized (Some 0) size held) p v ≡ true → holds_at held p v ≡ true
sized_elsewhere size held p v out h = elim (cases_lt p size) [
  | inl under ↦ elim (cases_lt p (length held)) [
    | inl old ↦ sym (passes_resized_old (byte_is v) (Some 0) size held p under old) ∙ h
    | inr new ↦ contradiction _ (in_span_blocks (length held) (size - length held) p new (omega arith)) out
  ]
  | inr past ↦ contradiction _ h (passes_past (byte_is v) (resized (Some 0) size held) p (past_end past))
]
  where
    past_end : size ≤ p → length (resized (Some 0) size held) ≤ p
    past_end past = let e = length_resized (byte_is v) (Some 0) size held in omega (arith, e, past)

filled_elsewhere : (start : ℕ) (bytes : List ℕ) (held : List (Option ℕ)) (p v : ℕ) → is_among (filter (lacks_in start (start + length bytes) held) (blocks_of start (length bytes))) (p / 4096) ≡ false
    → holds_at (filled start bytes held) p v ≡ true → holds_at held p v ≡ true
filled_elsewhere start bytes held p v out h = ⊎_elim
    (λ a. a)
    (λ a. contradiction (is_among (filter (lacks_in start (start + length bytes) held) (blocks_of start (length bytes))) (p / 4096))
    (among_filter (lacks_in start (start + length bytes) held) (blocks_of start (length bytes)) (p / 4096)
    ∙ (λ i. in_span_blocks start (length bytes) p a.1 a.2 i && lacks a.0 a.1 a.2 i)) out)
    (filled_comes start bytes held p v h)
  where
    inside : p < length held
    inside = elim (cases_lt p (length held)) [
      | inl low ↦ low
      | inr high ↦ contradiction _ h (passes_past (byte_is v) (filled start bytes held) p (omega (arith, length_filled start bytes held, high)))
    ]

    lacks : is_held held p ≡ false → start ≤ p → p < start + length bytes → lacks_in start (start + length bytes) held (p / 4096) ≡ true
    lacks none low high = by (list_all is_some (slice_range held (max start (4096 * (p / 4096))) (min (start + length bytes) (4096 * (p / 4096) + 4096)))) refl
      where
        by : (b : Bool) → list_all is_some (slice_range held (max start (4096 * (p / 4096))) (min (start + length bytes) (4096 * (p / 4096) + 4096))) ≡ b → not b ≡ true
        by false e = refl
        by true e = contradiction _ (passes_part is_some held (max start (4096 * (p / 4096))) (min (start + length bytes) (4096 * (p / 4096) + 4096)) p (omega arith) (omega arith) inside e) none

-- a byte that is held afterwards, in a block into which none was put, was held before
pub elsewhere : (c : Change) (i : Item) (pin : Pin) (n : Usn) (p v : ℕ) → is_among (puts_in c i.held) (p / 4096) ≡ false → holds_at (item_effect c pin n i).held p v ≡ true → holds_at i.held p v ≡ true
elsewhere (change.Make item parent name kind size identity) i pin n p v out h = h
elsewhere (change.Remove item) i pin n p v out h = h
elsewhere (change.Move item parent name) i pin n p v out h = h
elsewhere (change.Write item at bytes) i pin n p v out h = wrote_elsewhere at bytes i.held p v out h
elsewhere (change.Size item size) i pin n p v out h = sized_elsewhere size i.held p v out h
elsewhere (change.Filled item start bytes) i pin n p v out h = filled_elsewhere start bytes i.held p v out h
elsewhere (change.Validated item start len) i pin n p v out h = h
elsewhere (change.Emptied item start len) i pin n p v out h = left_in _ 0 i.held p v h
elsewhere (change.SetPin item state) i pin n p v out h = h
elsewhere (change.Mark item at) i pin n p v out h = h
elsewhere (change.Clear item) i pin n p v out h = h
elsewhere (change.Convert item identity) i pin n p v out h = h
elsewhere (change.Revert item) i pin n p v out h = h
elsewhere (change.Rebase item identity len at) i pin n p v out h = h
elsewhere (change.Take item identity size) i pin n p v out h = absurd (none_in size p v h)
elsewhere (change.Copy item from parent name) i pin n p v out h = h
elsewhere (change.Populated item) i pin n p v out h = h
elsewhere (change.Keep item on) i pin n p v out h = h

-- which blocks hold a byte

pub none_held : (held : List (Option ℕ)) (p : ℕ) → is_held held p ≡ true → (v : ℕ) × (holds_at held p v ≡ true)
none_held [] p e = absurd (true≢false (sym e))
none_held (None ∷ hs) zero e = absurd (true≢false (sym e))
none_held (Some b ∷ hs) zero e = (b, eq-eqb b b refl)
none_held (h ∷ hs) (suc p) e = none_held hs p e

any_is_all : {A : Type 0} (f : A → Bool) (xs : List A) → list_any f xs ≡ not (list_all (λ x. not (f x)) xs)
any_is_all {A} f [] = refl
any_is_all {A} f (x ∷ xs) = by (f x) (list_any f xs) (list_all (λ y. not (f y)) xs) (any_is_all f xs)
  where
    by : (a b c : Bool) → b ≡ not c → (a || b) ≡ not (not a && c)
    by true b c e = refl
    by false b c e = e

flipped : {A : Type 0} (f : A → Bool) (xs : List A) (p : ℕ) → p < length xs → passes_at (λ x. not (f x)) xs p ≡ not (passes_at f xs p)
flipped {A} f [] p lt = absurd (omega arith)
flipped {A} f (x ∷ xs) zero lt = refl
flipped {A} f (x ∷ xs) (suc p) lt = flipped f xs p (omega arith)

in_length : {A : Type 0} (f : A → Bool) (xs : List A) (p : ℕ) → passes_at f xs p ≡ true → p < length xs
in_length {A} f xs p e = elim (cases_lt p (length xs)) [ inl low ↦ low | inr high ↦ contradiction _ e (passes_past f xs p high) ]

pub block_holds : (held : List (Option ℕ)) (b p : ℕ) → p / 4096 ≡ b → is_held held p ≡ true → block_has_byte held b ≡ true
block_holds held b p at e = any_is_all is_some part ∙ by (list_all (λ x. not (is_some x)) part) refl
  where
    part : List (Option ℕ)
    part = slice_range held (4096 * b) (4096 * b + 4096)

    by : (t : Bool) → list_all (λ x. not (is_some x)) part ≡ t → not t ≡ true
    by false q = refl
    by true q = contradiction _ (passes_part (λ x. not (is_some x)) held (4096 * b) (4096 * b + 4096) p (omega (arith, at)) (omega (arith, at)) (in_length is_some held p e) q)
        (flipped is_some held p (in_length is_some held p e) ∙ ap not e)

pub no_block : (held : List (Option ℕ)) (b : ℕ) → ((p : ℕ) → p / 4096 ≡ b → is_held held p ≡ false) → block_has_byte held b ≡ false
no_block held b none = any_is_all is_some (slice_range held (4096 * b) (4096 * b + 4096))
    ∙ ap not (part_passes (λ x. not (is_some x)) held (4096 * b) (4096 * b + 4096) (λ p low high lt. flipped is_some held p lt ∙ ap not (none p (omega arith))))

pub touches_block : (here : List Span) (held : List (Option ℕ)) → IsRuns here → ((p : ℕ) → contains here p ≡ is_held held p) → (b : ℕ) → touches here b ≡ block_has_byte held b
touches_block here held runs same b = by (touches here b) refl
  where
    by : (t : Bool) → touches here b ≡ t → t ≡ block_has_byte held b
    by true e = let found : HasBlock here b = (touches_means here b runs).0 e in sym (block_holds held b found.0 found.2 (sym (same found.0) ∙ found.1))
    by false e = sym (no_block held b (λ p at. none p at (is_held held p) refl))
      where
        none : (p : ℕ) → p / 4096 ≡ b → (h : Bool) → is_held held p ≡ h → is_held held p ≡ false
        none p at false q = q
        none p at true q = contradiction _ ((touches_means here b runs).1 (p, same p ∙ q, at)) e

pub among_holding : (held : List (Option ℕ)) (b : ℕ) → is_among (blocks_holding held) b ≡ block_has_byte held b
among_holding held b = among_filter (block_has_byte held) (counting 0 (blocks_in (length held))) b ∙ by (block_has_byte held b) refl
  where
    by : (t : Bool) → block_has_byte held b ≡ t → (is_among (counting 0 (blocks_in (length held))) b && t) ≡ t
    by false e = none (is_among (counting 0 (blocks_in (length held))) b)
      where
        none : (x : Bool) → (x && false) ≡ false
        none true = refl
        none false = refl
    by true e = elim (cases_lt b (blocks_in (length held))) [
      | inl low ↦ ap (λ (x : Bool). x && true) (in_counting 0 (blocks_in (length held)) b (omega arith) (omega arith))
      | inr high ↦ contradiction _ e (no_block held b (λ p at. passes_past is_some held p (omega (arith, at, high))))
    ]
