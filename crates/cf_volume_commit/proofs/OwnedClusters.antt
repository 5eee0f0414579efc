-- The clusters that an opening marks are those of the rows.
use Rattle.std.proofs.Common.{◌≡◌, ℕ, suc, ◌+◌, ◌<◌, ◌≤◌, ◌==◌, Bool, true, false, not, ◌&&◌, ◌||◌, cond, eqb, ltb, List, [], ◌∷◌, length, refl, sym, ◌∙◌, ap, arith, inl, inr}
use Rattle.std.specs.Prelude.{All, slice_index_or}
use Rattle.std.specs.List.{list_any}
use Rattle.std.proofs.lemmas.Bool.{cases_lt, eqb-true, ltb-true, true≢false}
use Rattle.std.proofs.lemmas.List.Elements.{All-nil, All-cons}
use Rattle.std.proofs.lemmas.List.{get_or_default}
use Rattle.cf_clusters.specs.Roles.{AreApart, Opens, how_many, is_dropped, is_now, use_of}
use Rattle.cf_clusters.specs.declared.uses.Use.{Use}
use Rattle.cf_clusters.specs.declared.uses.Use.TheVariants.{Free, Held}
use Rattle.cf_model.specs.Standing.{are_apart}
use Rattle.cf_volume_points.proofs.Apart.{none_past}
use Rattle.cf_volume_points.specs.Clusters.{Owns, times}

three : (a b c : Bool) → (a && not b && c) ≡ true → (a ≡ true) × (b ≡ false) × (c ≡ true)
three true false true e = (refl, refl, refl)
three true false false e = absurd (true≢false (sym e))
three true true c e = absurd (true≢false (sym e))
three false b c e = absurd (true≢false (sym e))

pub apart_in : (n : ℕ) (ks : List ℕ) → are_apart n ks ≡ true → AreApart ks
apart_in n [] e = tt
apart_in n (k ∷ ks) e = let parts = three (ltb k n) (list_any (λ m. m == k) ks) (are_apart n ks) e in (parts.1, apart_in n ks parts.2)

pub inside_all : (n : ℕ) (ks : List ℕ) → are_apart n ks ≡ true → All (λ k. k < n) ks
inside_all n [] e = All-nil (λ (k : ℕ). k < n)
inside_all n (k ∷ ks) e = let parts = three (ltb k n) (list_any (λ m. m == k) ks) (are_apart n ks) e in All-cons (λ (j : ℕ). j < n) k ks (ltb-true k n parts.0) (inside_all n ks parts.2)

same_plus : (n m : ℕ) → n ≡ m → 0 + n ≡ m
same_plus n m e = omega (arith, e)

-- once where it is there
times_apart : (n : ℕ) (ks : List ℕ) (k : ℕ) → are_apart n ks ≡ true → times k ks ≡ cond (list_any (λ j. j == k) ks) 1 0
times_apart n [] k e = refl
times_apart n (j ∷ js) k e = let parts = three (ltb j n) (list_any (λ m. m == j) js) (are_apart n js) e in by (eqb j k) refl (list_any (λ m. m == k) js) refl parts.1 (times_apart n js k parts.2)
  where
    by : (t : Bool) → eqb j k ≡ t → (u : Bool) → list_any (λ m. m == k) js ≡ u → list_any (λ m. m == j) js ≡ false → times k js ≡ cond u 1 0 → ◌≡◌ {A = ℕ} (cond t 1 0 + times k js) (cond (t || list_any (λ m. m == k) js) 1 0)
    by true p true q other rest = absurd (true≢false (sym q ∙ ap (λ (x : ℕ). list_any (λ m. m == x) js) (sym (eqb-true j k p)) ∙ other))
    by true p false q other rest = omega (arith, rest)
    by false p u q other rest = same_plus (times k js) (cond (list_any (λ m. m == k) js) 1 0) (rest ∙ ap (λ (x : Bool). cond x 1 0) (sym q))

held_once : (t : Bool) (u : Use) → u ≡ cond t Held Free → ◌≡◌ {A = ℕ} (cond (is_now u) 1 0) (cond t 1 0)
held_once true u e = ap (λ (x : Use). cond (is_now x) 1 0) e
held_once false u e = ap (λ (x : Use). cond (is_now x) 1 0) e

none_there : (n : ℕ) (ks : List ℕ) (k : ℕ) → are_apart n ks ≡ true → n ≤ k → list_any (λ j. j == k) ks ≡ false
none_there n [] k e high = refl
none_there n (j ∷ js) k e high = let parts = three (ltb j n) (list_any (λ m. m == j) js) (are_apart n js) e in by (eqb j k) refl (ltb-true j n parts.0) (none_there n js k parts.2 high)
  where
    by : (t : Bool) → eqb j k ≡ t → j < n → list_any (λ m. m == k) js ≡ false → (t || list_any (λ m. m == k) js) ≡ false
    by true p lt rest = absurd (omega (arith, eqb-true j k p, lt, high))
    by false p lt rest = rest

pub owns_opened : (n : ℕ) (ks : List ℕ) (uses : List Use) → are_apart n ks ≡ true → Opens n ks uses → Owns uses ks
owns_opened n ks uses apart opens k = times_apart n ks k apart ∙ elim (cases_lt k n) [
  | inl low ↦
      sym (held_once (list_any (λ j. j == k) ks) (slice_index_or uses k Free)
      (get_or_default uses k Free Held (omega (arith, low, opens.size)) ∙ opens.each k low))
  | inr high ↦
      ap (λ (t : Bool). cond t 1 0) (none_there n ks k apart high) ∙ sym (none_past uses k (omega (arith, high, opens.size)))
]

-- none is dropped

held_not_dropped : (t : Bool) (u : Use) → u ≡ cond t Held Free → is_dropped u ≡ false
held_not_dropped true u e = ap is_dropped e
held_not_dropped false u e = ap is_dropped e

none_so : (uses : List Use) → ((k : ℕ) → k < length uses → is_dropped (use_of uses k) ≡ false) → how_many is_dropped uses ≡ 0
none_so [] h = refl
none_so (u ∷ us) h = let rest = none_so us (λ k lt. h (suc k) (omega (arith, lt))) in ap (λ (t : Bool). cond t 1 0 + how_many is_dropped us) (h 0 (omega arith)) ∙ same_plus (how_many is_dropped us) 0 rest

pub none_dropped : (n : ℕ) (ks : List ℕ) (uses : List Use) → Opens n ks uses → how_many is_dropped uses ≡ 0
none_dropped n ks uses opens = none_so uses (λ k lt. held_not_dropped (list_any (λ j. j == k) ks) (use_of uses k) (opens.each k (omega (arith, lt, opens.size))))
