-- The runs of flags are maximal, and have the positions whose flag is set.
use Rattle.std.proofs.Common.{◌≡◌, ℕ, zero, suc, ◌+◌, ◌^◌, ◌<◌, ◌≤◌, Bool, true, false, ◌&&◌, ◌||◌, cond, List, [], ◌∷◌, length, refl, sym, ap, subst, ◌∙◌, arith, eqb, ltb, Option, is_some}
use Rattle.std.specs.Prelude.{map}
use Rattle.std.proofs.lemmas.Bool.Decides.{nat_tests}
use Rattle.cf_base.specs.declared.spans.Span.{Span}
use Rattle.cf_model.specs.Images.{runs_from, runs_of, with_place}
use Rattle.cf_model.specs.Words.{by_place, passes_at}
use Rattle.cf_ranges.specs.Positions.{IsRuns, IsRunsFrom, contains, within}

-- a run in front

apart : (at start : ℕ) → at + 1 ≤ start → eqb start (at + 1) ≡ false → at + 1 + 1 ≤ start
apart at start h e = grind (arith, nat_tests)

together : (at start : ℕ) → eqb start (at + 1) ≡ true → start ≡ at + 1
together at start e = grind (arith, nat_tests)

place_runs : (at : ℕ) (rs : List Span) → at + 1 ≤ 2 ^ 40 → IsRunsFrom (at + 1) rs → IsRunsFrom at (with_place at rs)
place_runs at [] h r = (omega arith, omega arith, omega arith, tt)
place_runs at (s ∷ ss) h r = by (eqb s.start (at + 1)) refl where
  by : (b : Bool) → eqb s.start (at + 1) ≡ b → IsRunsFrom at (cond b (record { start = at; len = s.len + 1 } ∷ ss) (record { start = at; len = 1 } ∷ s ∷ ss))
  by true e =
      let same : s.start ≡ at + 1 = together at s.start e in
      (omega arith, omega arith, omega (arith, r.2), subst (λ n. IsRunsFrom n ss) (omega arith) r.3)
  by false e = (omega arith, omega arith, omega arith, (apart at s.start r.0 e, r.1, r.2, r.3))

one : (at p : ℕ) (b : Bool) → (within at (at + 1) p || b) ≡ (eqb p at || b)
one at p true = grind (arith, nat_tests)
one at p false = grind (arith, nat_tests)

joined : (at start len p : ℕ) (b : Bool) → start ≡ at + 1 → (within at (at + (len + 1)) p || b) ≡ (eqb p at || (within start (start + len) p || b))
joined at start len p true h = grind (arith, nat_tests)
joined at start len p false h = grind (arith, nat_tests)

place_contains : (at p : ℕ) (rs : List Span) → contains (with_place at rs) p ≡ (eqb p at || contains rs p)
place_contains at p [] = one at p false
place_contains at p (s ∷ ss) = by (eqb s.start (at + 1)) refl where
  by : (b : Bool) → eqb s.start (at + 1) ≡ b → contains (cond b (record { start = at; len = s.len + 1 } ∷ ss) (record { start = at; len = 1 } ∷ s ∷ ss)) p ≡ (eqb p at || contains (s ∷ ss) p)
  by true e = joined at s.start s.len p (contains ss p) (together at s.start e)
  by false e = one at p (contains (s ∷ ss) p)

-- all of them

lower_runs : (low high : ℕ) (rs : List Span) → low ≤ high → IsRunsFrom high rs → IsRunsFrom low rs
lower_runs low high [] h r = tt
lower_runs low high (s ∷ ss) h r = (omega (arith, r.0), r.1, r.2, r.3)

runs_from_runs : (at : ℕ) (flags : List Bool) → at + length flags ≤ 2 ^ 40 → IsRunsFrom at (runs_from at flags)
runs_from_runs at [] h = tt
runs_from_runs at (true ∷ bs) h = place_runs at (runs_from (at + 1) bs) (omega arith) (runs_from_runs (at + 1) bs (omega arith))
runs_from_runs at (false ∷ bs) h = lower_runs at (at + 1) (runs_from (at + 1) bs) (omega arith) (runs_from_runs (at + 1) bs (omega arith))

pub runs_of_runs : (flags : List Bool) → length flags ≤ 2 ^ 40 → IsRuns (runs_of flags)
runs_of_runs flags h = runs_from_runs 0 flags (omega arith)

none_lower : (at p : ℕ) (flags : List Bool) → p < at → contains (runs_from at flags) p ≡ false
none_lower at p [] h = refl
none_lower at p (true ∷ bs) h = place_contains at p (runs_from (at + 1) bs) ∙ ap (λ b. eqb p at || b) (none_lower (at + 1) p bs (omega arith)) ∙ other p at h where
  other : (p at : ℕ) → p < at → (eqb p at || false) ≡ false
  other p at h = grind (arith, nat_tests)
none_lower at p (false ∷ bs) h = none_lower (at + 1) p bs (omega arith)

runs_from_contain : (at q p : ℕ) (flags : List Bool) → p ≡ at + q → contains (runs_from at flags) p ≡ passes_at (λ b. b) flags q
runs_from_contain at q p [] h = refl
runs_from_contain at zero p (true ∷ bs) h = place_contains at p (runs_from (at + 1) bs) ∙ here p at (contains (runs_from (at + 1) bs) p) (omega arith) where
  here : (p at : ℕ) (b : Bool) → p ≡ at → (eqb p at || b) ≡ true
  here p at true h = grind (arith, nat_tests)
  here p at false h = grind (arith, nat_tests)
runs_from_contain at zero p (false ∷ bs) h = none_lower (at + 1) p bs (omega arith)
runs_from_contain at (suc q) p (true ∷ bs) h = place_contains at p (runs_from (at + 1) bs) ∙ past p at (contains (runs_from (at + 1) bs) p) (omega arith) ∙ runs_from_contain (at + 1) q p bs (omega arith) where
  past : (p at : ℕ) (b : Bool) → at < p → (eqb p at || b) ≡ b
  past p at true h = grind (arith, nat_tests)
  past p at false h = grind (arith, nat_tests)
runs_from_contain at (suc q) p (false ∷ bs) h = runs_from_contain (at + 1) q p bs (omega arith)

pub runs_of_contain : (flags : List Bool) (p : ℕ) → contains (runs_of flags) p ≡ passes_at (λ b. b) flags p
runs_of_contain flags p = runs_from_contain 0 p p flags (omega arith)

-- the flags of an item

pub held_flags : (held : List (Option ℕ)) (p : ℕ) → passes_at (λ b. b) (map is_some held) p ≡ passes_at is_some held p
held_flags [] p = refl
held_flags (h ∷ hs) zero = refl
held_flags (h ∷ hs) (suc p) = held_flags hs p

placed_flags : (f : ℕ → Bool) (at q p : ℕ) (held : List (Option ℕ)) → p ≡ at + q → passes_at (λ b. b) (by_place (λ p h. f p) at held) q ≡ (ltb q (length held) && f p)
placed_flags f at q p [] h = no_place q (f p) where
  no_place : (q : ℕ) (b : Bool) → false ≡ (ltb q 0 && b)
  no_place q b = grind (arith, nat_tests)
placed_flags f at zero p (x ∷ xs) h = ap f (sym (omega arith)) ∙ first (length xs) (f p) where
  first : (n : ℕ) (b : Bool) → b ≡ (ltb 0 (suc n) && b)
  first n true = grind (arith, nat_tests)
  first n false = grind (arith, nat_tests)
placed_flags f at (suc q) p (x ∷ xs) h = placed_flags f (at + 1) q p xs (omega arith) ∙ ap (λ b. b && f p) (next q (length xs)) where
  next : (q n : ℕ) → ltb q n ≡ ltb (suc q) (suc n)
  next q n = grind (arith, nat_tests)

pub covered_at : (f : ℕ → Bool) (p : ℕ) (held : List (Option ℕ)) → passes_at (λ b. b) (by_place (λ p h. f p) 0 held) p ≡ (ltb p (length held) && f p)
covered_at f p held = placed_flags f 0 p p held (omega arith)

pub length_flags : (f : ℕ → Bool) (at : ℕ) (held : List (Option ℕ)) → length (by_place (λ p h. f p) at held) ≡ length held
length_flags f at [] = refl
length_flags f at (x ∷ xs) = ap suc (length_flags f (at + 1) xs)

pub length_held : (held : List (Option ℕ)) → length (map is_some held) ≡ length held
length_held [] = refl
length_held (x ∷ xs) = ap suc (length_held xs)
