-- A file is whole where its first run of bytes goes from the start to the end.
use Rattle.std.proofs.Common.{◌≡◌, ℕ, zero, suc, ◌+◌, ◌≤◌, ◌<◌, true, false, List, [], ◌∷◌, length, get_or, refl, sym, ◌∙◌, arith, eqb, leb, Option, inl, inr}
use Rattle.std.specs.Prelude.{is_some, nat_le, nat_lt, ◌&&◌}
use Rattle.std.specs.List.{list_all}
use Rattle.std.proofs.lemmas.Bool.{and_from, and_parts, cases_lt, eq-eqb, false_from_ne_true, le-leb, lt-leb, ne_eqb, or_from, or_left}
use Rattle.std.proofs.lemmas.Bool.Decides.{nat_tests}
use Rattle.cf_base.specs.declared.spans.Span.{Span}
use Rattle.cf_model.specs.Items.{is_held}
use Rattle.cf_ranges.specs.Positions.{IsRuns, IsRunsFrom, contains, in_span}

before_span : (s : Span) (p : ℕ) → p < s.start → in_span s p ≡ false
before_span s p lt = numbers s.start s.len p lt where
  numbers : (start len p : ℕ) → p < start → (nat_le start p && nat_lt p (start + len)) ≡ false
  numbers start len p lt = grind (arith, nat_tests)

after_span : (s : Span) (p : ℕ) → s.start + s.len ≤ p → in_span s p ≡ false
after_span s p le = numbers s.start s.len p le where
  numbers : (start len p : ℕ) → start + len ≤ p → (nat_le start p && nat_lt p (start + len)) ≡ false
  numbers start len p le = grind (arith, nat_tests)

within_span : (s : Span) (p : ℕ) → s.start ≤ p → p < s.start + s.len → in_span s p ≡ true
within_span s p le lt = numbers s.start s.len p le lt where
  numbers : (start len p : ℕ) → start ≤ p → p < start + len → (nat_le start p && nat_lt p (start + len)) ≡ true
  numbers start len p le lt = grind (arith, nat_tests)

none_below : (low : ℕ) (runs : List Span) (p : ℕ) → IsRunsFrom low runs → p < low → contains runs p ≡ false
none_below low [] p h lt = refl
none_below low (s ∷ ss) p h lt = or_from _ _ (before_span s p (omega (arith, h.0))) (none_below (s.start + s.len + 1) ss p h.3 (omega (arith, h.0)))

all_from : (held : List (Option ℕ)) → ((p : ℕ) → p < length held → is_held held p ≡ true) → list_all is_some held ≡ true
all_from [] h = refl
all_from (x ∷ xs) h = and_from _ _ (h 0 (omega arith)) (all_from xs (λ p lt. h (suc p) (omega arith)))

each_from : (held : List (Option ℕ)) (p : ℕ) → list_all is_some held ≡ true → p < length held → is_held held p ≡ true
each_from [] p h lt = absurd (omega arith)
each_from (x ∷ xs) zero h lt = (and_parts _ _ h).0
each_from (x ∷ xs) (suc p) h lt = each_from xs p (and_parts _ _ h).1 (omega arith)

not_all : (held : List (Option ℕ)) (p : ℕ) → is_held held p ≡ false → p < length held → false ≡ list_all is_some held
not_all held p miss lt = sym (false_from_ne_true _ (λ all. let z : true ≡ false = sym (each_from held p all lt) ∙ miss in cc))

held_below : (held : List (Option ℕ)) (p : ℕ) → is_held held p ≡ true → p < length held
held_below [] p h = let z : false ≡ true = h in absurd cc
held_below (x ∷ xs) zero h = omega arith
held_below (x ∷ xs) (suc p) h = omega (arith, held_below xs p h)

pub no_runs : (runs : List Span) (held : List (Option ℕ)) (size : ℕ) → length runs < 1 → size ≡ length held → ((p : ℕ) → contains runs p ≡ is_held held p) → eqb size 0 ≡ list_all is_some held
no_runs [] [] size lt e same = eq-eqb size 0 e
no_runs [] (x ∷ xs) size lt e same = ne_eqb size 0 (λ z. omega arith) ∙ not_all (x ∷ xs) 0 (sym (same 0)) (omega arith)
no_runs (s ∷ ss) held size lt e same = absurd (omega arith)

pub first_run : (runs : List Span) (held : List (Option ℕ)) (size : ℕ) (d : Span) → 1 ≤ length runs → IsRuns runs → (get_or runs 0 d).start ≡ 0 → size ≡ length held → ((p : ℕ) → contains runs p ≡ is_held held p) →
    leb size (get_or runs 0 d).len ≡ list_all is_some held
first_run [] held size d le runs zero_start e same = absurd (omega arith)
first_run (s ∷ ss) held size d le runs zero_start e same = elim (cases_lt s.len size) [
  | inl lt ↦ lt-leb size s.len lt ∙ not_all held s.len (sym (same s.len) ∙ or_from _ _ (after_span s s.len (omega arith)) (none_below (s.start + s.len + 1) ss s.len runs.3 (omega arith))) (omega arith)
  | inr ge ↦ le-leb size s.len ge ∙ sym (all_from held (λ p lt. sym (same p) ∙ or_left _ _ (within_span s p (omega arith) (omega arith))))
]

pub late_run : (runs : List Span) (held : List (Option ℕ)) (d : Span) → 1 ≤ length runs → IsRuns runs → ((get_or runs 0 d).start ≡ 0 → ⊥) → ((p : ℕ) → contains runs p ≡ is_held held p) → false ≡ list_all is_some held
late_run [] held d le runs late same = absurd (omega arith)
late_run (s ∷ ss) held d le runs late same =
    let some : s.start < length held = held_below held s.start (sym (same s.start) ∙ or_left _ _ (within_span s s.start (omega arith) (omega (arith, runs.1)))) in
    not_all held 0 (sym (same 0) ∙ or_from _ _ (before_span s 0 (omega arith)) (none_below (s.start + s.len + 1) ss 0 runs.3 (omega arith))) (omega arith)
