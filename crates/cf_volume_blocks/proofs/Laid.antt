-- What a block holds once the bytes of a change are laid over it.
use Rattle.std.proofs.Common.{◌≡◌, ℕ, zero, suc, ◌+◌, ◌-◌, ◌*◌, ◌<◌, ◌≤◌, Bool, true, false, not, cond, List, [], ◌∷◌, length, take, drop, map, refl, sym, ◌∙◌, ap, arith, ◌&&◌, ◌||◌, ◌==◌, inl, inr, ◌⊎◌, ⊎_elim, Option, Some, None, get_or, length-take, length-drop}
use Rattle.std.proofs.lemmas.Bool.{cases_lt, true≢false}
use Rattle.std.proofs.lemmas.Bool.Decides.{nat_tests}
use Rattle.std.proofs.lemmas.List.{length-map}
use Rattle.cf_volume_blocks.specs.Bytes.{Clears, HoldsBlock, Lays, LaysIn, byte_is, has_at, holds_at}
use Rattle.cf_model.proofs.Places.{passes_past, passes_patched_after, passes_patched_before, passes_patched_filler, passes_patched_new, passes_back, passes_drop, passes_front, passes_resized_new, passes_resized_old, passes_take, length_resized}
use Rattle.cf_base.specs.declared.spans.Span.{Span}
use Rattle.std.specs.Option.{is_some}
use Rattle.std.specs.Prelude.{All}
use Rattle.std.proofs.lemmas.List.Elements.{All-cons, All-nil}
use Rattle.cf_model.specs.Effects.{filled, filled_front}
use Rattle.cf_model.specs.Items.{is_held}
use Rattle.cf_table.proofs.Meaning.{length_filled}
use Rattle.cf_ranges.specs.Positions.{IsMissing, IsRuns, IsRunsFrom, contains, in_span}
use Rattle.cf_model.specs.Overlay.{patched, resized}
use Rattle.cf_model.specs.Words.{passes_at, within}

pub within_is : (from to p : ℕ) → from ≤ p → p < to → within from to p ≡ true
within_is from to p a b = grind (arith, nat_tests)

pub within_before : (from to p : ℕ) → p < from → within from to p ≡ false
within_before from to p a = grind (arith, nat_tests)

pub within_after : (from to p : ℕ) → to ≤ p → within from to p ≡ false
within_after from to p a = grind (arith, nat_tests)

pub at_true : (b : Bool) (x y z : Bool) → z ≡ cond b x y → b ≡ true → x ≡ true → z ≡ true
at_true true x y z e h t = e ∙ t
at_true false x y z e h t = absurd (true≢false (sym h))

pub at_false : (b : Bool) (x y z : Bool) → z ≡ cond b x y → b ≡ false → y ≡ true → z ≡ true
at_false false x y z e h t = e ∙ t
at_false true x y z e h t = absurd (true≢false h)

map_some : (bytes : List ℕ) (p v : ℕ) → passes_at (byte_is v) (map Some bytes) p ≡ has_at bytes p v
map_some [] p v = refl
map_some (b ∷ bs) zero v = refl
map_some (b ∷ bs) (suc p) v = map_some bs p v

pub wrote_block : (number size at : ℕ) (bytes b0 b1 b2 : List ℕ) (held : List (Option ℕ)) → length held ≡ size → Clears number size at b0 b1 → Lays number at bytes b1 b2 → HoldsBlock held number b0
    → HoldsBlock (patched (Some 0) at (map Some bytes) held) number b2
wrote_block number size at bytes b0 b1 b2 held long clears lays before q v low h = elim (cases_lt (4096 * number + q) at) [
  | inl under ↦ at_false _ _ _ _ (lays.each q v low) (within_before at (at + length bytes) (4096 * number + q) under) (elim (cases_lt (4096 * number + q) (length held)) [
    | inl old ↦ at_false _ _ _ _ (clears.each q v low) (within_before size at (4096 * number + q) (omega (arith, long, old)))
        (before q v low (sym (passes_patched_before (byte_is v) (Some 0) at (map Some bytes) held (4096 * number + q) under old) ∙ h))
    | inr new ↦ at_true _ _ _ _ (clears.each q v low) (within_is size at (4096 * number + q) (omega (arith, long, new)) under)
        (sym (passes_patched_filler (byte_is v) (Some 0) at (map Some bytes) held (4096 * number + q) under new) ∙ h)
  ])
  | inr above ↦ elim (cases_lt (4096 * number + q) (at + length bytes)) [
    | inl inside ↦ at_true _ _ _ _ (lays.each q v low) (within_is at (at + length bytes) (4096 * number + q) above inside)
        (sym (map_some bytes (4096 * number + q - at) v) ∙ sym (passes_patched_new (byte_is v) (Some 0) at (map Some bytes) held (4096 * number + q) (4096 * number + q - at) (omega arith) (long_map above inside)) ∙ h)
    | inr past ↦ at_false _ _ _ _ (lays.each q v low) (within_after at (at + length bytes) (4096 * number + q) past)
        (at_false _ _ _ _ (clears.each q v low) (within_after size at (4096 * number + q) above)
        (before q v low (sym (passes_patched_after (byte_is v) (Some 0) at (map Some bytes) held (4096 * number + q) (past_map past)) ∙ h)))
  ]
]
  where
    same_len : length (map Some bytes) ≡ length bytes
    same_len = length-map bytes Some

    long_map : at ≤ 4096 * number + q → 4096 * number + q < at + length bytes → 4096 * number + q - at < length (map Some bytes)
    long_map above inside = omega (arith, same_len, above, inside)

    past_map : at + length bytes ≤ 4096 * number + q → at + length (map Some bytes) ≤ 4096 * number + q
    past_map past = omega (arith, same_len, past)

pub sized_block : (number old size : ℕ) (b0 b1 : List ℕ) (held : List (Option ℕ)) → length held ≡ old → Clears number old size b0 b1 → HoldsBlock held number b0 → HoldsBlock (resized (Some 0) size held) number b1
sized_block number old size b0 b1 held long clears before q v low h = elim (cases_lt (4096 * number + q) size) [
  | inl under ↦ elim (cases_lt (4096 * number + q) (length held)) [
    | inl here ↦ at_false _ _ _ _ (clears.each q v low) (within_before old size (4096 * number + q) (omega (arith, long, here)))
        (before q v low (sym (passes_resized_old (byte_is v) (Some 0) size held (4096 * number + q) under here) ∙ h))
    | inr new ↦ at_true _ _ _ _ (clears.each q v low) (within_is old size (4096 * number + q) (omega (arith, long, new)) under)
        (sym (passes_resized_new (byte_is v) (Some 0) size held (4096 * number + q) under new) ∙ h)
  ]
  | inr past ↦ absurd (true≢false (sym h ∙ passes_past (byte_is v) (resized (Some 0) size held) (4096 * number + q) (past_end past)))
]
  where
    past_end : size ≤ 4096 * number + q → length (resized (Some 0) size held) ≤ 4096 * number + q
    past_end past = let e = length_resized (byte_is v) (Some 0) size held in omega (arith, e, past)

-- gaps, one after the other

contains_more : (gaps : List Span) (i p : ℕ) (d : Span) → i < length gaps → contains (take (suc i) gaps) p ≡ (contains (take i gaps) p || in_span (get_or gaps i d) p)
contains_more [] i p d lt = absurd (omega arith)
contains_more (g ∷ gs) zero p d lt = one (in_span g p)
  where
    one : (b : Bool) → (b || false) ≡ b
    one true = refl
    one false = refl
contains_more (g ∷ gs) (suc i) p d lt = ap (λ (b : Bool). in_span g p || b) (contains_more gs i p d (omega arith)) ∙ sym (shift (in_span g p) (contains (take i gs) p) (in_span (get_or gs i d) p))
  where
    shift : (a b c : Bool) → ((a || b) || c) ≡ (a || (b || c))
    shift true b c = refl
    shift false b c = refl

pub gap_more : (gaps : List Span) (i m : ℕ) (g d : Span) (number start : ℕ) (bytes mid b0 b1 b2 : List ℕ) → m ≡ suc i → i < length gaps → g ≡ get_or gaps i d → (start ≤ g.start) × (g.start + g.len ≤ start + length bytes)
    → mid ≡ take g.len (drop (g.start - start) bytes) → LaysIn (take i gaps) number start bytes b0 b1 → Lays number g.start mid b1 b2 → LaysIn (take m gaps) number start bytes b0 b2
gap_more gaps i m g d number start bytes mid b0 b1 b2 m_is lt g_is inside mid_is before lays = record {
  size = lays.size ∙ before.size;
  each = λ q v low. lays.each q v low
      ∙ joined (within g.start (g.start + length mid) (4096 * number + q)) (in_span g (4096 * number + q)) (contains (take i gaps) (4096 * number + q)) (contains (take m gaps) (4096 * number + q))
      (has_at mid (4096 * number + q - g.start) v) (has_at bytes (4096 * number + q - start) v) (has_at b1 q v) (has_at b0 q v)
      (ap (λ (n : ℕ). within g.start (g.start + n) (4096 * number + q)) long) (λ in_g. same_byte (4096 * number + q) v in_g) (before.each q v low) (more (4096 * number + q));
}
  where
    long : length mid ≡ g.len
    long = ap length mid_is ∙ omega (arith, length-take g.len (drop (g.start - start) bytes), length-drop (g.start - start) bytes, inside.0, inside.1)

    more : (p : ℕ) → contains (take m gaps) p ≡ (contains (take i gaps) p || in_span g p)
    more p = ap (λ (n : ℕ). contains (take n gaps) p) m_is ∙ contains_more gaps i p d lt ∙ ap (λ (s : Span). contains (take i gaps) p || in_span s p) (sym g_is)

    from_low : (p : ℕ) → in_span g p ≡ true → g.start ≤ p
    from_low p h = grind (arith, nat_tests, h)

    to_high : (p : ℕ) → in_span g p ≡ true → p < g.start + g.len
    to_high p h = grind (arith, nat_tests, h)

    same_byte : (p v : ℕ) → in_span g p ≡ true → has_at mid (p - g.start) v ≡ has_at bytes (p - start) v
    same_byte p v h =
        let low = from_low p h in
        let high = to_high p h in
        ap (λ (l : List ℕ). has_at l (p - g.start) v) mid_is
        ∙ passes_take (λ b. b == v) g.len (drop (g.start - start) bytes) (p - g.start) (omega (arith, low, high))
        ∙ passes_drop (λ b. b == v) (g.start - start) bytes (p - start) (p - g.start) (omega (arith, low, inside.0))

    joined : (a b c d : Bool) (x y z w : Bool) → a ≡ b → (b ≡ true → x ≡ y) → z ≡ cond c y w → d ≡ (c || b) → cond a x z ≡ cond d y w
    joined true true true d x y z w e f g h = f refl ∙ ap (λ (t : Bool). cond t y w) (sym h)
    joined true true false d x y z w e f g h = f refl ∙ ap (λ (t : Bool). cond t y w) (sym h)
    joined false false c d x y z w e f g h = g ∙ ap (λ (t : Bool). cond t y w) (sym (h ∙ none c))
      where
        none : (c : Bool) → (c || false) ≡ c
        none true = refl
        none false = refl
    joined true false c d x y z w e f g h = absurd (true≢false e)
    joined false true c d x y z w e f g h = absurd (true≢false (sym e))

-- a fill

held_byte : (v : ℕ) (h : Option ℕ) → byte_is v h ≡ true → is_some h ≡ true
held_byte v None e = absurd (true≢false (sym e))
held_byte v (Some b) e = refl

pub is_here : (held : List (Option ℕ)) (p v : ℕ) → holds_at held p v ≡ true → is_held held p ≡ true
is_here [] p v e = absurd (true≢false (sym e))
is_here (h ∷ hs) zero v e = held_byte v h e
is_here (h ∷ hs) (suc p) v e = is_here hs p v e

-- a byte of a filled list was there before, or came with the bytes
abbrev pub Comes : List (Option ℕ) → ℕ → List ℕ → ℕ → ℕ → Type 0
Comes held start bytes p v = (holds_at held p v ≡ true) ⊎ ((is_held held p ≡ false) × (start ≤ p) × (p < start + length bytes) × (has_at bytes (p - start) v ≡ true))

front_comes : (bytes : List ℕ) (held : List (Option ℕ)) (q v : ℕ) → passes_at (byte_is v) (filled_front bytes held) q ≡ true → (holds_at held q v ≡ true) ⊎ ((is_held held q ≡ false) × (q < length bytes) × (has_at bytes q v ≡ true))
front_comes [] held q v e = inl e
front_comes (b ∷ bs) [] q v e = absurd (true≢false (sym e))
front_comes (b ∷ bs) (None ∷ hs) zero v e = inr (refl, omega arith, e)
front_comes (b ∷ bs) (Some x ∷ hs) zero v e = inl e
front_comes (b ∷ bs) (h ∷ hs) (suc q) v e = ⊎_elim (λ a. inl a) (λ a. inr (a.0, omega (arith, a.1), a.2)) (front_comes bs hs q v e)

pub filled_comes : (start : ℕ) (bytes : List ℕ) (held : List (Option ℕ)) (p v : ℕ) → holds_at (filled start bytes held) p v ≡ true → Comes held start bytes p v
filled_comes start bytes held p v e = elim (cases_lt p (length held)) [
  | inl inside ↦ elim (cases_lt p start) [
    | inl front ↦ inl (sym (passes_front (byte_is v) (take start held) (filled_front bytes (drop start held)) p (omega (arith, length-take start held)) ∙ passes_take (byte_is v) start held p front) ∙ e)
    | inr back ↦ ⊎_elim
        (λ a. inl (sym (passes_drop (byte_is v) start held p (p - start) (omega arith)) ∙ a))
        (λ a. inr (sym (passes_drop is_some start held p (p - start) (omega arith)) ∙ a.0, back, omega (arith, a.1), a.2))
        (front_comes bytes (drop start held) (p - start) v (sym (passes_back (byte_is v) (take start held) (filled_front bytes (drop start held)) p (p - start) (omega (arith, length-take start held))) ∙ e))
  ]
  | inr past ↦ absurd (true≢false (sym e ∙ passes_past (byte_is v) (filled start bytes held) p (omega (arith, length_filled start bytes held))))
]

gap_test : (a b : Bool) → b ≡ true → (a && not b) ≡ false
gap_test true b e = ap not e
gap_test false b e = refl

both_true : (a b : Bool) → a ≡ true → b ≡ false → (a && not b) ≡ true
both_true a b p q = grind (arith, p, q)

pub filled_block : (number start : ℕ) (bytes b0 b1 : List ℕ) (here gaps : List Span) (span : Span) (held : List (Option ℕ)) → ((p : ℕ) → contains here p ≡ is_held held p)
    → ((p : ℕ) → start ≤ p → p < start + length bytes → 4096 * number ≤ p → p < 4096 * number + 4096 → in_span span p ≡ true) → IsMissing here span gaps → LaysIn gaps number start bytes b0 b1
    → HoldsBlock held number b0 → HoldsBlock (filled start bytes held) number b1
filled_block number start bytes b0 b1 here gaps span held same covers missing lays before q v low h =
    ⊎_elim
    (λ a. at_false _ _ _ _ (lays.each q v low) (missing (4096 * number + q) ∙ gap_test (in_span span (4096 * number + q)) (contains here (4096 * number + q)) (same (4096 * number + q) ∙ is_here held (4096 * number + q) v a)) (before q v low a))
    (λ a. at_true _ _ _ _ (lays.each q v low)
    (missing (4096 * number + q) ∙ both_true (in_span span (4096 * number + q)) (contains here (4096 * number + q)) (covers (4096 * number + q) a.1 a.2 (omega arith) (omega arith)) (same (4096 * number + q) ∙ a.0)) a.3)
    (filled_comes start bytes held (4096 * number + q) v h)

-- the gaps of a span lie in it

at_start : (g : Span) (gs : List Span) → 0 < g.len → contains (g ∷ gs) g.start ≡ true
at_start g gs pos = grind (arith, nat_tests)

at_last : (g : Span) (gs : List Span) → 0 < g.len → contains (g ∷ gs) (g.start + g.len - 1) ≡ true
at_last g gs pos = grind (arith, nat_tests)

in_tail : (g : Span) (gs : List Span) (p : ℕ) → contains gs p ≡ true → contains (g ∷ gs) p ≡ true
in_tail g gs p e = by (in_span g p) (contains gs p) e
  where
    by : (a b : Bool) → b ≡ true → (a || b) ≡ true
    by true b e = refl
    by false b e = e

pub runs_inside : (low from to : ℕ) (gaps : List Span) → IsRunsFrom low gaps → ((p : ℕ) → contains gaps p ≡ true → (from ≤ p) × (p < to)) → All (λ g. (from ≤ g.start) × (g.start + g.len ≤ to)) gaps
runs_inside low from to [] runs inside = All-nil (λ g. (from ≤ g.start) × (g.start + g.len ≤ to))
runs_inside low from to (g ∷ gs) runs inside =
    let first = inside g.start (at_start g gs runs.1) in
    let last = inside (g.start + g.len - 1) (at_last g gs runs.1) in
    All-cons (λ s. (from ≤ s.start) × (s.start + s.len ≤ to)) g gs (first.0, omega (arith, last.1, runs.1)) (runs_inside (g.start + g.len + 1) from to gs runs.3 (λ p e. inside p (in_tail g gs p e)))

left_true : (a b c : Bool) → c ≡ (a && b) → c ≡ true → a ≡ true
left_true true b c e t = refl
left_true false b c e t = absurd (true≢false (sym t ∙ e))

pub gaps_inside : (from to : ℕ) (here gaps : List Span) (span : Span) → IsRuns gaps → IsMissing here span gaps → ((p : ℕ) → in_span span p ≡ true → (from ≤ p) × (p < to)) → All (λ g. (from ≤ g.start) × (g.start + g.len ≤ to)) gaps
gaps_inside from to here gaps span runs missing inside =
    runs_inside 0 from to gaps runs (λ p e. inside p (left_true (in_span span p) (not (contains here p)) (contains gaps p) (missing p) e))
