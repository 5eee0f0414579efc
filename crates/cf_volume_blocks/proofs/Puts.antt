-- The blocks into which a change puts bytes.
use Rattle.std.proofs.Common.{◌≡◌, ℕ, zero, suc, ◌+◌, ◌-◌, ◌*◌, ◌<◌, ◌≤◌, Bool, true, false, not, List, [], ◌∷◌, ◌++◌, length, drop, min, max, refl, sym, ◌∙◌, ap, arith, ◌&&◌, Option, filter, length-take, length-drop}
use Rattle.std.specs.List.{list_all, slice_range}
use Rattle.std.specs.Option.{is_some}
use Rattle.std.specs.Prelude.{IfOk, Result, Ok, Err}
use Rattle.std.proofs.lemmas.Bool.{true≢false}
use Rattle.std.proofs.lemmas.List.{append_assoc}
use Rattle.std.proofs.lemmas.List.Elements.{filter_agree}
use Rattle.cf_base.specs.declared.spans.Span.{Span}
use Rattle.cf_model.proofs.Places.{passes_drop, passes_take}
use Rattle.cf_model.specs.Blocks.{lacks_in}
use Rattle.cf_model.specs.Items.{is_held}
use Rattle.cf_model.specs.Words.{counting, passes_at}
use Rattle.cf_ranges.proofs.Blocks.{touches_means}
use Rattle.cf_ranges.specs.Positions.{HasBlock, IsMissing, IsRuns, contains, in_span, touches}

-- one more number
pub counting_push : (out new total : List ℕ) (i n m : ℕ) → n ≡ suc m → new ≡ out ++ i ∷ [] → out ++ counting i n ≡ total → new ++ counting (i + 1) m ≡ total
counting_push out new total i n m n_is step inv =
    ap (λ (l : List ℕ). l ++ counting (i + 1) m) step ∙ append_assoc out (i ∷ []) (counting (i + 1) m) ∙ ap (λ (k : ℕ). out ++ counting i k) (sym n_is) ∙ inv

-- a part of a list passes a test where each place in it does
all_in : {A : Type 0} (f : A → Bool) (xs : List A) → ((p : ℕ) → p < length xs → passes_at f xs p ≡ true) → list_all f xs ≡ true
all_in {A} f [] h = refl
all_in {A} f (x ∷ xs) h = both (f x) (list_all f xs) (h 0 (omega arith)) (all_in f xs (λ p lt. h (suc p) (omega arith)))
  where
    both : (a b : Bool) → a ≡ true → b ≡ true → (a && b) ≡ true
    both true b p q = q
    both false b p q = p

in_all : {A : Type 0} (f : A → Bool) (xs : List A) (p : ℕ) → p < length xs → list_all f xs ≡ true → passes_at f xs p ≡ true
in_all {A} f [] p lt h = absurd (omega arith)
in_all {A} f (x ∷ xs) zero lt h = first (f x) (list_all f xs) h
  where
    first : (a b : Bool) → (a && b) ≡ true → a ≡ true
    first true b h = refl
    first false b h = h
in_all {A} f (x ∷ xs) (suc p) lt h = in_all f xs p (omega arith) (rest (f x) (list_all f xs) h)
  where
    rest : (a b : Bool) → (a && b) ≡ true → b ≡ true
    rest true b h = h
    rest false b h = absurd (true≢false (sym h))

pub part_passes : {A : Type 0} (f : A → Bool) (xs : List A) (from to : ℕ) → ((p : ℕ) → from ≤ p → p < to → p < length xs → passes_at f xs p ≡ true) → list_all f (slice_range xs from to) ≡ true
part_passes {A} f xs from to h = all_in f (slice_range xs from to) (λ p lt.
    passes_take f (to - from) (drop from xs) p (omega (arith, lt, length-take (to - from) (drop from xs)))
    ∙ passes_drop f from xs (from + p) p refl ∙ h (from + p) (omega arith) (omega (arith, lt, length-take (to - from) (drop from xs))) (omega (arith, lt, length-take (to - from) (drop from xs), length-drop from xs)))

pub passes_part : {A : Type 0} (f : A → Bool) (xs : List A) (from to p : ℕ) → from ≤ p → p < to → p < length xs → list_all f (slice_range xs from to) ≡ true → passes_at f xs p ≡ true
passes_part {A} f xs from to p low high inside h =
    sym (passes_take f (to - from) (drop from xs) (p - from) (omega arith) ∙ passes_drop f from xs p (p - from) (omega arith))
    ∙ in_all f (slice_range xs from to) (p - from) (omega (arith, length-take (to - from) (drop from xs), length-drop from xs)) h

-- a block lacks a byte where a gap touches it
module _ (here gaps : List Span) (span : Span) (start end : ℕ) (held : List (Option ℕ)) (same : (p : ℕ) → contains here p ≡ is_held held p) (runs : IsRuns gaps) (missing : IsMissing here span gaps)
    (inside : (p : ℕ) → in_span span p ≡ true → (start ≤ p) × (p < end) × (p < length held)) (covers : (p : ℕ) → start ≤ p → p < end → p < length held → in_span span p ≡ true) where
  gap_at : (p : ℕ) → contains gaps p ≡ true → (in_span span p ≡ true) × (is_held held p ≡ false)
  gap_at p e = by (in_span span p) (contains here p) (sym (missing p) ∙ e) (same p)
    where
      by : (a b : Bool) → (a && not b) ≡ true → b ≡ is_held held p → (a ≡ true) × (is_held held p ≡ false)
      by true true t s = absurd (true≢false (sym t))
      by true false t s = (refl, sym s)
      by false b t s = absurd (true≢false (sym t))

  is_gap : (p : ℕ) → in_span span p ≡ true → is_held held p ≡ false → contains gaps p ≡ true
  is_gap p a b = missing p ∙ (λ i. a i && not ((same p ∙ b) i))

  pub touch_is_lack : (b : ℕ) → touches gaps b ≡ lacks_in start end held b
  touch_is_lack b = by (touches gaps b) refl (lacks_in start end held b) refl
    where
      part : List (Option ℕ)
      part = slice_range held (max start (4096 * b)) (min end (4096 * b + 4096))

      full : touches gaps b ≡ false → list_all is_some part ≡ true
      full none = part_passes is_some held (max start (4096 * b)) (min end (4096 * b + 4096)) (λ p low high lt. place p low high lt (is_held held p) refl)
        where
          place : (p : ℕ) → max start (4096 * b) ≤ p → p < min end (4096 * b + 4096) → p < length held → (h : Bool) → is_held held p ≡ h → is_held held p ≡ true
          place p low high lt true e = e
          place p low high lt false e = absurd (true≢false (sym ((touches_means gaps b runs).1 (p, is_gap p (covers p (omega arith) (omega arith) lt) e, omega arith)) ∙ none))

      lack : touches gaps b ≡ true → list_all is_some part ≡ true → ⊥
      lack some all =
          let found : HasBlock gaps b = (touches_means gaps b runs).0 some in
          let gap = gap_at found.0 found.1 in
          let at = inside found.0 gap.0 in
          true≢false (sym (passes_part is_some held (max start (4096 * b)) (min end (4096 * b + 4096)) found.0 (omega (arith, at.0, found.2)) (omega (arith, at.1, found.2)) at.2 all) ∙ gap.1)

      by : (t : Bool) → touches gaps b ≡ t → (l : Bool) → lacks_in start end held b ≡ l → t ≡ l
      by true e true f = refl
      by false e false f = refl
      by true e false f = absurd (lack e (unflip (list_all is_some part) f))
        where
          unflip : (x : Bool) → not x ≡ false → x ≡ true
          unflip true h = refl
          unflip false h = absurd (true≢false h)
      by false e true f = absurd (true≢false (sym f ∙ ap not (full e)))

  pub touched_lack : (blocks : List ℕ) → filter (touches gaps) blocks ≡ filter (lacks_in start end held) blocks
  touched_lack blocks = filter_agree (touches gaps) (lacks_in start end held) touch_is_lack blocks

pub if_ok_map : {T E : Type 0} {P Q : T → Type 0} (r : Result T E) → ((t : T) → P t → Q t) → IfOk r P → IfOk r Q
if_ok_map (Ok t) f h = f t h
if_ok_map (Err e) f h = h
