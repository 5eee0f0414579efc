-- The runs that a span meets stand together, and become one with it.
use Rattle.std.proofs.Common.{◌≡◌, ℕ, zero, suc, ◌+◌, ◌-◌, ◌<◌, ◌≤◌, Bool, true, false, List, [], ◌∷◌, ◌++◌, length, take, drop, get_or, set, cond, max, min, refl, sym, ap, ◌∙◌, arith, append_assoc, leb, length-drop, ltb}
use Rattle.std.specs.List.{copy_within, insert, remove_range}
use Rattle.std.specs.List.Sorted.{IsPartitionPoint}
use Rattle.std.proofs.lemmas.Bool.{cond_both, cond-true, cond-false, leb-true, leb-false, ltb-true, ltb-false, lt-ltb, le-ltb}
use Rattle.std.proofs.lemmas.Bool.Decides.{nat_tests}
use Rattle.std.proofs.Math.Seq.{paste}
use Rattle.std.proofs.lemmas.List.{drop-set-lt, take_more_set, take_rest}
use Rattle.std.proofs.lemmas.List.Edits.{take-paste}
use Rattle.cf_base.specs.declared.spans.Span.{Span}
use Rattle.cf_ranges.specs.Positions.{IsRunsFrom}
use Rattle.cf_ranges.specs.Steps.{added, begun, ended, span}
use Rattle.cf_ranges.proofs.Search.{from_low}

-- how many begin by a position is where a search by the starts ends

pub counted : (at i : ℕ) (runs : List Span) → i ≤ length runs → IsPartitionPoint (λ (r : Span). leb r.start at ≡ true) (λ (r : Span). leb r.start at ≡ false) runs i → i ≡ begun at runs
counted at zero [] le point = refl
counted at (suc i) [] le point = absurd (omega arith)
counted at zero (r ∷ rs) le point = sym (cond-false _ _ _ (point.1 0 r (omega arith) (omega arith)))
counted at (suc i) (r ∷ rs) le point =
    ap suc (counted at i rs (omega arith) (λ k d low high. point.0 (suc k) d (omega arith) (omega arith), λ k d low high. point.1 (suc k) d (omega arith) (omega arith)))
    ∙ sym (cond-true _ _ _ (point.0 0 r (omega arith) (omega arith)))

-- the last run that begins by a position says how many end before it

some_begun : (at n : ℕ) (r : Span) (rs : List Span) → begun at (r ∷ rs) ≡ suc n → (r.start ≤ at) × (begun at rs ≡ n)
some_begun at n r rs = cond_both (leb r.start at) (suc (begun at rs)) 0 (λ (m : ℕ). m ≡ suc n → (r.start ≤ at) × (begun at rs ≡ n))
    (λ by e. (leb-true _ _ by, omega (arith, e)))
    (λ later e. absurd (omega (arith, e)))

pub begun_start : (at n : ℕ) (runs : List Span) (d : Span) → begun at runs ≡ suc n → (get_or runs n d).start ≤ at
begun_start at n [] d e = absurd (omega (arith, e))
begun_start at zero (r ∷ rs) d e = (some_begun at 0 r rs e).0
begun_start at (suc n) (r ∷ rs) d e = begun_start at n rs d (some_begun at (suc n) r rs e).1

pub none_ended : (at low : ℕ) (runs : List Span) → IsRunsFrom low runs → begun at runs ≡ 0 → ended at runs ≡ 0
none_ended at low [] h e = refl
none_ended at low (r ∷ rs) h e = cond_both (leb r.start at) (suc (begun at rs)) 0 (λ (m : ℕ). m ≡ 0 → ended at (r ∷ rs) ≡ 0)
    (λ by z. absurd (omega (arith, z)))
    (λ later z. let lt : at < r.start = leb-false _ _ later in cond-false _ _ _ (le-ltb (r.start + r.len) at (omega arith)))
    e

has_ended : (start len at : ℕ) → start ≤ at → ltb (start + len) at ≡ ltb len (at - start)
has_ended start len at h = grind (arith, nat_tests)

ends_by : (at n low : ℕ) (runs : List Span) (d : Span) → IsRunsFrom low runs → begun at runs ≡ suc n
    → ended at runs ≡ cond (ltb (get_or runs n d).len (at - (get_or runs n d).start)) (suc n) n
ends_by at n low [] d h e = absurd (omega (arith, e))
ends_by at zero low (r ∷ rs) d h e =
    let by = some_begun at 0 r rs e in
    ap (λ (k : ℕ). cond (ltb (r.start + r.len) at) (suc k) 0) (none_ended at (r.start + r.len + 1) rs h.3 by.1) ∙ ap (λ (b : Bool). cond b 1 0) (has_ended r.start r.len at by.0)
ends_by at (suc n) low (r ∷ rs) d h e = cond-true _ _ _ (lt-ltb _ _ before) ∙ ap suc (ends_by at n (r.start + r.len + 1) rs d h.3 later) ∙ both (ltb (get_or rs n d).len (at - (get_or rs n d).start)) where
  later : begun at rs ≡ suc n
  later = (some_begun at (suc n) r rs e).1

  next : (rs : List Span) → IsRunsFrom (r.start + r.len + 1) rs → begun at rs ≡ suc n → r.start + r.len < at
  next [] g k = absurd (omega (arith, k))
  next (q ∷ qs) g k = omega (arith, g.0, (some_begun at n q qs k).0)

  before : r.start + r.len < at
  before = next rs h.3 later

  both : (b : Bool) → suc (cond b (suc n) n) ≡ cond b (suc (suc n)) (suc n)
  both true = refl
  both false = refl

pub last_ended : (at n low : ℕ) (runs : List Span) (d : Span) → IsRunsFrom low runs → begun at runs ≡ suc n → (get_or runs n d).len < at - (get_or runs n d).start → ended at runs ≡ suc n
last_ended at n low runs d h e lt = ends_by at n low runs d h e ∙ cond-true _ _ _ (lt-ltb _ _ lt)

pub last_reaches : (at n low : ℕ) (runs : List Span) (d : Span) → IsRunsFrom low runs → begun at runs ≡ suc n → at - (get_or runs n d).start ≤ (get_or runs n d).len → ended at runs ≡ n
last_reaches at n low runs d h e le = ends_by at n low runs d h e ∙ cond-false _ _ _ (le-ltb _ _ le)

-- how the span goes through the runs

before : (start end : ℕ) (r : Span) (rs : List Span) → r.start + r.len < start → added start end (r ∷ rs) ≡ r ∷ added start end rs
before start end r rs h = cond-true _ _ _ (lt-ltb _ _ h)

behind : (start end : ℕ) (r : Span) (rs : List Span) → start ≤ r.start + r.len → end < r.start → added start end (r ∷ rs) ≡ span start end ∷ r ∷ rs
behind start end r rs h k = cond-false _ _ _ (le-ltb _ _ h) ∙ cond-true _ _ _ (lt-ltb _ _ k)

meets : (start end : ℕ) (r : Span) (rs : List Span) → start ≤ r.start + r.len → r.start ≤ end → added start end (r ∷ rs) ≡ added (min start r.start) (max end (r.start + r.len)) rs
meets start end r rs h k = cond-false _ _ _ (le-ltb _ _ h) ∙ cond-false _ _ _ (le-ltb _ _ k)

-- where the runs end
abbrev top : List Span → ℕ
top [] = 0
top (r ∷ rs) = max (r.start + r.len) (top rs)

-- the span has met a run, and goes on through those that begin by its own end
fused : (start high end low : ℕ) (runs : List Span) → IsRunsFrom low runs → start ≤ low → end ≤ high → high ≤ max end (low - 1)
    → added start high runs ≡ span start (max high (top (take (begun end runs) runs))) ∷ drop (begun end runs) runs
fused start high end low [] h s e t = let same : high ≡ max high 0 = omega arith in ap (λ (k : ℕ). span start k ∷ []) same
fused start high end low (r ∷ rs) h s e t =
    cond_both (leb r.start end) (suc (begun end rs)) 0 (λ (n : ℕ). added start high (r ∷ rs) ≡ span start (max high (top (take n (r ∷ rs)))) ∷ drop n (r ∷ rs))
    (λ by. let le : r.start ≤ end = leb-true _ _ by in
    let first : min start r.start ≡ start = omega (arith, h.0) in
    let top_is : max (max high (r.start + r.len)) (top (take (begun end rs) rs)) ≡ max high (max (r.start + r.len) (top (take (begun end rs) rs))) = omega arith in
    meets start high r rs (omega (arith, h.0)) (omega arith)
    ∙ ap (λ (k : ℕ). added k (max high (r.start + r.len)) rs) first
    ∙ fused start (max high (r.start + r.len)) end (r.start + r.len + 1) rs h.3 (omega (arith, h.0)) (omega arith) (omega (arith, h.0))
    ∙ ap (λ (k : ℕ). span start k ∷ drop (begun end rs) rs) top_is)
    (λ later. let lt : end < r.start = leb-false _ _ later in
    let same : high ≡ max high 0 = omega arith in
    behind start high r rs (omega (arith, h.0)) (omega (arith, h.0)) ∙ ap (λ (k : ℕ). span start k ∷ r ∷ rs) same)

joins : (start end low : ℕ) (runs : List Span) (d : Span) → IsRunsFrom low runs → start < end → ended start runs < begun end runs
    → added start end runs ≡ take (ended start runs) runs ++ span (min start (get_or runs (ended start runs) d).start) (max end (top (take (begun end runs) runs))) ∷ drop (begun end runs) runs
joins start end low [] d h s lt = absurd (omega (arith, lt))
joins start end low (r ∷ rs) d h s below =
    cond_both (ltb (r.start + r.len) start) (suc (ended start rs)) 0
    (λ (f : ℕ). f < begun end (r ∷ rs) → added start end (r ∷ rs) ≡ take f (r ∷ rs) ++ span (min start (get_or (r ∷ rs) f d).start) (max end (top (take (begun end (r ∷ rs)) (r ∷ rs)))) ∷ drop (begun end (r ∷ rs)) (r ∷ rs))
    (λ first. let past : r.start + r.len < start = ltb-true _ _ first in
    cond_both (leb r.start end) (suc (begun end rs)) 0
    (λ (l : ℕ). suc (ended start rs) < l → added start end (r ∷ rs) ≡ take (suc (ended start rs)) (r ∷ rs) ++ span (min start (get_or rs (ended start rs) d).start) (max end (top (take l (r ∷ rs)))) ∷ drop l (r ∷ rs))
    (λ by lt. let same : max end (top (take (begun end rs) rs)) ≡ max end (max (r.start + r.len) (top (take (begun end rs) rs))) = omega arith in
    before start end r rs past ∙ ap (λ (l : List Span). r ∷ l) (joins start end (r.start + r.len + 1) rs d h.3 s (omega (arith, lt)))
    ∙ ap (λ (k : ℕ). r ∷ (take (ended start rs) rs ++ span (min start (get_or rs (ended start rs) d).start) k ∷ drop (begun end rs) rs)) same)
    (λ later lt. absurd (omega (arith, lt))))
    (λ reaches. let le : start ≤ r.start + r.len = ltb-false _ _ reaches in
    cond_both (leb r.start end) (suc (begun end rs)) 0
    (λ (l : ℕ). 0 < l → added start end (r ∷ rs) ≡ span (min start r.start) (max end (top (take l (r ∷ rs)))) ∷ drop l (r ∷ rs))
    (λ by lt. let top_is : max (max end (r.start + r.len)) (top (take (begun end rs) rs)) ≡ max end (max (r.start + r.len) (top (take (begun end rs) rs))) = omega arith in
    meets start end r rs le (leb-true _ _ by)
    ∙ fused (min start r.start) (max end (r.start + r.len)) end (r.start + r.len + 1) rs h.3 (omega arith) (omega arith) (omega arith)
    ∙ ap (λ (k : ℕ). span (min start r.start) k ∷ drop (begun end rs) rs) top_is)
    (λ later lt. absurd (omega (arith, lt))))
    below

top_last : (n low : ℕ) (runs : List Span) (d : Span) → IsRunsFrom low runs → n < length runs → top (take (suc n) runs) ≡ (get_or runs n d).start + (get_or runs n d).len
top_last n low [] d h lt = absurd (omega (arith, lt))
top_last zero low (r ∷ rs) d h lt = let same : max (r.start + r.len) 0 ≡ r.start + r.len = omega arith in same
top_last (suc n) low (r ∷ rs) d h lt = ap (max (r.start + r.len)) (top_last n (r.start + r.len + 1) rs d h.3 (omega arith)) ∙ later where
  later : max (r.start + r.len) ((get_or rs n d).start + (get_or rs n d).len) ≡ (get_or rs n d).start + (get_or rs n d).len
  later = omega (arith, from_low (r.start + r.len + 1) n rs d h.3 (omega arith))

-- what is done in place

pub taken_out : (from to kept len : ℕ) (runs old new : List Span) → len ≡ length runs → from ≤ to → to ≤ length runs → kept + (to - from) ≡ len → old ≡ copy_within runs to len from → new ≡ take kept old → new ≡ remove_range runs from to
taken_out from to kept len runs old new n le lt k copied cut =
    cut ∙ ap (take kept) (copied ∙ ap (λ (m : ℕ). copy_within runs to m from) n) ∙ ap (λ (m : ℕ). take m (paste runs from (drop to runs) (length runs - to))) all
    ∙ take-paste runs from (drop to runs) (length runs - to) (omega arith) (let e : length (drop to runs) ≡ length runs - to = length-drop to runs in omega (arith, e))
    ∙ ap (λ (l : List Span). take from runs ++ l) (take_rest runs to) where
      all : kept ≡ from + (length runs - to)
      all = omega (arith, n, k)

same_run : (start len end : ℕ) → end ≡ start + len → ◌≡◌ {A = Span} (record { start = start; len = len }) (span start end)
same_run start len end e = let n : len ≡ end - start = omega (arith, e) in λ i. record { start = start; len = n i }

pub apart : (start end low : ℕ) (runs : List Span) → IsRunsFrom low runs → start < end → begun end runs ≤ ended start runs → added start end runs ≡ insert runs (ended start runs) (span start end)
apart start end low [] h s le = refl
apart start end low (r ∷ rs) h s none =
    cond_both (ltb (r.start + r.len) start) (suc (ended start rs)) 0
    (λ (f : ℕ). begun end (r ∷ rs) ≤ f → added start end (r ∷ rs) ≡ insert (r ∷ rs) f (span start end))
    (λ first. let past : r.start + r.len < start = ltb-true _ _ first in
    cond_both (leb r.start end) (suc (begun end rs)) 0 (λ (l : ℕ). l ≤ suc (ended start rs) → added start end (r ∷ rs) ≡ insert (r ∷ rs) (suc (ended start rs)) (span start end))
    (λ by le. before start end r rs past ∙ ap (λ (l : List Span). r ∷ l) (apart start end (r.start + r.len + 1) rs h.3 s (omega (arith, le))))
    (λ later le. absurd (let lt : end < r.start = leb-false _ _ later in omega arith)))
    (λ reaches. cond_both (leb r.start end) (suc (begun end rs)) 0 (λ (l : ℕ). l ≤ 0 → added start end (r ∷ rs) ≡ span start end ∷ r ∷ rs)
    (λ by le. absurd (omega (arith, le)))
    (λ later le. behind start end r rs (ltb-false _ _ reaches) (leb-false _ _ later)))
    none

pub put_apart : (s : Span) (first last low : ℕ) (runs : List Span) → IsRunsFrom low runs → 0 < s.len → first ≡ ended s.start runs → last ≡ begun (s.start + s.len) runs → last ≤ first → insert runs first s ≡ added s.start (s.start + s.len) runs
put_apart s first last low runs h some f l le =
    ap (λ (n : ℕ). insert runs n s) f ∙ ap (λ (x : Span). insert runs (ended s.start runs) x) (same_run s.start s.len (s.start + s.len) refl)
    ∙ sym (apart s.start (s.start + s.len) low runs h (omega (arith, some)) (omega (arith, f, l, le)))

pub put_joined : (s run : Span) (first last low : ℕ) (runs : List Span) (d : Span) → IsRunsFrom low runs → 0 < s.len → first ≡ ended s.start runs → last ≡ begun (s.start + s.len) runs → first < last → last ≤ length runs
    → run ≡ span (min s.start (get_or runs first d).start) (max (s.start + s.len) ((get_or runs (last - 1) d).start + (get_or runs (last - 1) d).len))
    → remove_range (set runs first run) (first + 1) last ≡ added s.start (s.start + s.len) runs
put_joined s run first zero low runs d h some f l lt le is = absurd (omega (arith, lt))
put_joined s run first (suc n) low runs d h some f l lt le is =
    ap (λ (x : List Span). x ++ drop (suc n) (set runs first run)) (take_more_set runs first run (omega arith))
    ∙ append_assoc (take first runs) (run ∷ []) (drop (suc n) (set runs first run))
    ∙ ap (λ (x : List Span). take first runs ++ run ∷ x) (drop-set-lt (suc n) runs first run (omega arith))
    ∙ ap (λ (x : Span). take first runs ++ x ∷ drop (suc n) runs) run_is
    ∙ ap (λ (k : ℕ). take k runs ++ span (min s.start (get_or runs k d).start) (max (s.start + s.len) (top (take (suc n) runs))) ∷ drop (suc n) runs) f
    ∙ ap (λ (k : ℕ). take (ended s.start runs) runs ++ span (min s.start (get_or runs (ended s.start runs) d).start) (max (s.start + s.len) (top (take k runs))) ∷ drop k runs) l
    ∙ sym (joins s.start (s.start + s.len) low runs d h (omega (arith, some)) (omega (arith, f, l, lt))) where
      before : suc n - 1 ≡ n
      before = omega arith

      run_is : run ≡ span (min s.start (get_or runs first d).start) (max (s.start + s.len) (top (take (suc n) runs)))
      run_is =
          is ∙ ap (λ (k : ℕ). span (min s.start (get_or runs first d).start) (max (s.start + s.len) ((get_or runs k d).start + (get_or runs k d).len))) before
          ∙ ap (λ (k : ℕ). span (min s.start (get_or runs first d).start) (max (s.start + s.len) k)) (sym (top_last n low runs d h (omega arith)))
