-- What `blocks_from` counts.
use Rattle.std.proofs.Common.{◌≡◌, ℕ, zero, suc, ◌+◌, ◌-◌, ◌*◌, ◌/◌, ◌<◌, ◌≤◌, Bool, true, false, ◌&&◌, ◌||◌, cond, List, [], ◌∷◌, max, refl, sym, ap, subst, ◌∙◌, arith, ltb, inl, inr, length, drop, get_or, drop-cons, add-one}
use Rattle.std.specs.Prelude.{◌↔◌}
use Rattle.std.proofs.lemmas.Bool.{cases_Bool}
use Rattle.std.proofs.lemmas.Bool.Decides.{nat_tests}
use Rattle.cf_base.specs.declared.spans.Span.{Span}
use Rattle.cf_ranges.specs.Positions.{within, contains, in_span, IsRunsFrom, IsBelow, HasBlock, touches, touched}
use Rattle.cf_ranges.specs.Steps.{blocks_from}

-- no run ends past top
abbrev EndsBy : ℕ → List Span → Type 0
EndsBy top [] = Unit {0}
EndsBy top (s ∷ ss) = (s.start + s.len ≤ top) × EndsBy top ss

at : (runs : List Span) (i j k m : ℕ) → i ≡ j → k ≡ m → touched runs i k ≡ touched runs j m
at runs i j k m e f = ap (λ v. touched runs v k) e ∙ ap (touched runs j) f

-- k blocks from i on, of which the first d are not touched
skipped : (runs : List Span) (d i k m e : ℕ) → i + d ≡ e → k ≡ d + m → ((b : ℕ) → i ≤ b → b < e → touches runs b ≡ false) → touched runs i k ≡ touched runs e m
skipped runs zero i k m e h f none = at runs i e k m (omega arith) (omega arith)
skipped runs (suc d) i zero m e h f none = absurd (omega arith)
skipped runs (suc d) i (suc k) m e h f none =
    ap (λ v. cond v 1 0 + touched runs (i + 1) k) (none i (omega arith) (omega arith))
    ∙ omega (arith, skipped runs d (i + 1) k m e (omega arith) (omega arith) (λ b u v. none b (omega arith) v))

-- and of which the first d are
counted : (runs : List Span) (d i k m e : ℕ) → i + d ≡ e → k ≡ d + m → ((b : ℕ) → i ≤ b → b < e → touches runs b ≡ true) → touched runs i k ≡ d + touched runs e m
counted runs zero i k m e h f all = at runs i e k m (omega arith) (omega arith) ∙ omega arith
counted runs (suc d) i zero m e h f all = absurd (omega arith)
counted runs (suc d) i (suc k) m e h f all =
    ap (λ v. cond v 1 0 + touched runs (i + 1) k) (all i (omega arith) (omega arith))
    ∙ omega (arith, counted runs d (i + 1) k m e (omega arith) (omega arith) (λ b u v. all b (omega arith) v))

same : (runs others : List Span) (i k : ℕ) → ((b : ℕ) → i ≤ b → touches runs b ≡ touches others b) → touched runs i k ≡ touched others i k
same runs others i zero h = refl
same runs others i (suc k) h =
    ap (λ v. cond v 1 0 + touched runs (i + 1) k) (h i (omega arith))
    ∙ ap (λ v. cond (touches others i) 1 0 + v) (same runs others (i + 1) k (λ b u. h b (omega arith)))

untouched_below : (b low : ℕ) (runs : List Span) → 4096 * b + 4096 ≤ low → IsRunsFrom low runs → touches runs b ≡ false
untouched_below b low [] h runs = refl
untouched_below b low (r ∷ rs) h runs = before (r.start) (r.start + r.len) b (touches rs b) (omega (arith, runs.0)) (untouched_below b (r.start + r.len + 1) rs (omega (arith, runs.0)) runs.3) where
  before : (from to b : ℕ) (v : Bool) → 4096 * b + 4096 ≤ from → v ≡ false → ((ltb from (4096 * b + 4096) && ltb (4096 * b) to) || v) ≡ false
  before from to b v h e = grind (arith, nat_tests)

inside : (from to b : ℕ) (v : Bool) → from / 4096 ≤ b → b < (to + 4095) / 4096 → ((ltb from (4096 * b + 4096) && ltb (4096 * b) to) || v) ≡ true
inside from to b v h k = let x : from < 4096 * b + 4096 = omega arith in let y : 4096 * b < to = omega arith in grind (arith, nat_tests)

past : (from to b : ℕ) (v : Bool) → (to + 4095) / 4096 ≤ b → ((ltb from (4096 * b + 4096) && ltb (4096 * b) to) || v) ≡ v
past from to b true h = grind (arith, nat_tests)
past from to b false h = let y : to ≤ 4096 * b = omega arith in grind (arith, nat_tests)

pub blocks_are_from : (next low n : ℕ) (runs : List Span) → 4096 * next ≤ low + 4095 → next ≤ n → IsRunsFrom low runs → EndsBy (4096 * n) runs → blocks_from next runs ≡ touched runs next (n - next)
blocks_are_from next low n [] h k runs ends = sym (skipped [] (n - next) next (n - next) 0 n (omega arith) (omega arith) (λ b u v. refl))
blocks_are_from next low n (r ∷ rs) h k runs ends =
    let first : ℕ = max next (r.start / 4096) in
    let end : ℕ = (r.start + r.len + 4095) / 4096 in
    let by : end ≤ n = omega (arith, ends.0) in
    let on : first ≤ end = omega (arith, runs.0) in
    sym (skipped (r ∷ rs) (first - next) next (n - next) (n - first) first (omega arith) (omega arith)
    (λ b u v. untouched_below b r.start (r ∷ rs) (omega arith) (omega arith, runs.1, runs.2, runs.3))
    ∙ counted (r ∷ rs) (end - first) first (n - first) (n - end) end (omega arith) (omega arith)
    (λ b u v. inside r.start (r.start + r.len) b (touches rs b) (omega arith) v)
    ∙ ap (λ v. (end - first) + v) (same (r ∷ rs) rs end (n - end) (λ b u. past r.start (r.start + r.len) b (touches rs b) u)
    ∙ sym (blocks_are_from ((r.start + r.len + 4095) / 4096) (r.start + r.len + 1) n rs (omega arith) by runs.3 ends.1)))

or_true : (v : Bool) → (v || true) ≡ true
or_true true = refl
or_true false = refl

holds : (start end p : ℕ) (v : Bool) → start ≤ p → p < end → (within start end p || v) ≡ true
holds start end p v h k = grind (arith, nat_tests)

ends_by : (low top : ℕ) (runs : List Span) → IsRunsFrom low runs → IsBelow runs top → EndsBy top runs
ends_by low top [] h below = tt
ends_by low top (r ∷ rs) h below =
    (last (r.start + r.len - 1) (omega (arith, h.1)), ends_by (r.start + r.len + 1) top rs h.3 (λ p e. below p (ap (λ v. in_span r p || v) e ∙ or_true (in_span r p)))) where
      last : (p : ℕ) → p + 1 ≡ r.start + r.len → r.start + r.len ≤ top
      last p e = let lt : p < top = below p (holds r.start (r.start + r.len) p (contains rs p) (omega (arith, h.1)) (omega arith)) in omega arith

pub blocks_are : (n : ℕ) (runs : List Span) → IsRunsFrom 0 runs → IsBelow runs (4096 * n) → blocks_from 0 runs ≡ touched runs 0 n
blocks_are n runs r below = blocks_are_from 0 0 n runs (omega arith) (omega arith) r (ends_by 0 (4096 * n) runs r below) ∙ at runs 0 0 (n - 0) n refl (omega arith)

-- a block is touched where one of its positions is in the set
has_block : (low b : ℕ) (runs : List Span) → IsRunsFrom low runs → touches runs b ≡ true → HasBlock runs b
has_block low b [] h t = let z : true ≡ false = sym t in absurd_of z where
  absurd_of : true ≡ false → HasBlock [] b
  absurd_of z = cc
has_block low b (r ∷ rs) h t = elim (cases_Bool (ltb r.start (4096 * b + 4096) && ltb (4096 * b) (r.start + r.len))) [
  | inl hit ↦ here (max r.start (4096 * b)) refl hit
  | inr miss ↦ let rest = has_block (r.start + r.len + 1) b rs h.3 (sym (ap (λ v. v || touches rs b) miss) ∙ t) in (rest.0, ap (λ v. in_span r rest.0 || v) rest.1 ∙ or_true (in_span r rest.0), rest.2)
] where
  low_side : (from to b : ℕ) → (ltb from (4096 * b + 4096) && ltb (4096 * b) to) ≡ true → from < 4096 * b + 4096
  low_side from to b e = grind (arith, nat_tests)

  high_side : (from to b : ℕ) → (ltb from (4096 * b + 4096) && ltb (4096 * b) to) ≡ true → 4096 * b < to
  high_side from to b e = grind (arith, nat_tests)

  here : (p : ℕ) → p ≡ max r.start (4096 * b) → (ltb r.start (4096 * b + 4096) && ltb (4096 * b) (r.start + r.len)) ≡ true → HasBlock (r ∷ rs) b
  here p e hit =
      let x = low_side r.start (r.start + r.len) b hit in
      let y = high_side r.start (r.start + r.len) b hit in
      (p, holds r.start (r.start + r.len) p (contains rs p) (omega arith) (omega (arith, h.1)), omega arith)

block_had : (b : ℕ) (runs : List Span) → HasBlock runs b → touches runs b ≡ true
block_had b [] has = let z : true ≡ false = sym has.1 in cc
block_had b (r ∷ rs) has = elim (cases_Bool (in_span r has.0)) [
  | inl hit ↦ meets r.start (r.start + r.len) has.0 b (touches rs b) hit has.2
  | inr miss ↦ ap (λ v. (ltb r.start (4096 * b + 4096) && ltb (4096 * b) (r.start + r.len)) || v) (block_had b rs (has.0, sym (ap (λ v. v || contains rs has.0) miss) ∙ has.1, has.2)) ∙ or_true (ltb r.start (4096 * b + 4096) && ltb (4096 * b) (r.start + r.len))
] where
  start_of : (from to p : ℕ) → within from to p ≡ true → from ≤ p
  start_of from to p e = grind (arith, nat_tests)

  end_of : (from to p : ℕ) → within from to p ≡ true → p < to
  end_of from to p e = grind (arith, nat_tests)

  meets : (from to p b : ℕ) (v : Bool) → within from to p ≡ true → p / 4096 ≡ b → ((ltb from (4096 * b + 4096) && ltb (4096 * b) to) || v) ≡ true
  meets from to p b v e k = let x = start_of from to p e in let y = end_of from to p e in
      let u : from < 4096 * b + 4096 = omega arith in let w : 4096 * b < to = omega arith in grind (arith, nat_tests)

pub touches_means : (runs : List Span) (b : ℕ) → IsRunsFrom 0 runs → (touches runs b ≡ true) ↔ HasBlock runs b
touches_means runs b h = (has_block 0 b runs h, block_had b runs)

next_run : (i : ℕ) (runs : List Span) (d : Span) → i < length runs → drop i runs ≡ get_or runs i d ∷ drop (i + 1) runs
next_run i runs d h = rw add-one (drop-cons runs i d h)

pub unrolled : (n i : ℕ) (runs : List Span) (d : Span) → i < length runs →
    blocks_from n (drop i runs) ≡ (((get_or runs i d).start + (get_or runs i d).len + 4095) / 4096 - max n ((get_or runs i d).start / 4096)) + blocks_from (((get_or runs i d).start + (get_or runs i d).len + 4095) / 4096) (drop (i + 1) runs)
unrolled n i runs d h = ap (blocks_from n) (next_run i runs d h)

pub runs_at : (low i : ℕ) (runs : List Span) (d : Span) → i < length runs → IsRunsFrom low (drop i runs) → IsRunsFrom low (get_or runs i d ∷ drop (i + 1) runs)
runs_at low i runs d h k = subst (IsRunsFrom low) (next_run i runs d h) k
