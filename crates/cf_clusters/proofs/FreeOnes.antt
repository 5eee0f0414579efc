-- The set of the free clusters goes with their uses.
use Rattle.std.proofs.Common.{◌≡◌, inl, inr, ℕ, zero, suc, ◌+◌, ◌-◌, ◌<◌, ◌≤◌, Bool, true, false, ◌||◌, not, cond, List, [], ◌∷◌, ◌++◌, length, get_or, set, map, take, replicate, refl, sym, ap, ◌∙◌, arith, get_or-set_same, get_or-set_other, length-set}
use Rattle.std.specs.Prelude.{nat_lt}
use Rattle.std.specs.List.{position_or_len}
use Rattle.std.proofs.Math.Seq.{map-set_same}
use Rattle.std.proofs.lemmas.Bool.{cases_eq, cases_lt, lt-ltb, le-ltb}
use Rattle.std.proofs.lemmas.Bool.Decides.{nat_tests}
use Rattle.std.proofs.lemmas.List.{ext_get_or, get_or-map, get_or-replicate, get_or-take, get_or_default, length-map, length-replicate, length-take, map-set, take_more}
use Rattle.std.proofs.lemmas.List.Sums.{passes_at_first}
use Rattle.cf_clusters.specs.declared.uses.Use.{Use}
use Rattle.cf_clusters.specs.declared.uses.Use.TheVariants.{Free, Held, Staged, Dropped}
use Rattle.cf_clusters.specs.LeastNumbers.{added}
use Rattle.cf_clusters.specs.Layout.{IsLayout, use_at, uses_from}
use Rattle.cf_clusters.specs.Roles.{how_many, is_free, use_of}

-- one use changes
pub flags_set : (us vs : List Use) (k : ℕ) (u : Use) (old new : List Bool) → old ≡ map is_free us → vs ≡ set us k u → new ≡ set old k (is_free u) → new ≡ map is_free vs
flags_set us vs k u old new old_is vs_is new_is =
    new_is ∙ ap (λ (l : List Bool). set l k (is_free u)) old_is ∙ sym (map-set is_free us k u) ∙ ap (map is_free) (sym vs_is)

-- one that is not free before nor after
pub flags_stay : (us vs : List Use) (k : ℕ) (u v : Use) (flags : List Bool) → flags ≡ map is_free us → use_of us k ≡ u → is_free v ≡ is_free u → vs ≡ set us k v → flags ≡ map is_free vs
flags_stay us vs k u v flags is was same vs_is =
    is ∙ sym (map-set_same is_free us k v Held (same ∙ sym (ap is_free was))) ∙ ap (map is_free) (sym vs_is)

pub length-free : (us : List Use) (flags : List Bool) (k : ℕ) → flags ≡ map is_free us → k < length us → k < length flags
length-free us flags k is lt = omega (arith, ap (λ (l : List Bool). length l) is, length-map us is_free, lt)

-- the first of the set is the first free one
pub first_free : (us : List Use) → position_or_len (λ b. b) (map is_free us) ≡ position_or_len is_free us
first_free [] = refl
first_free (u ∷ us) = ap (λ (n : ℕ). cond (not (is_free u)) (1 + n) 0) (first_free us)

-- where some are free there is a first
pub some_free : (us : List Use) → 0 < how_many is_free us → position_or_len is_free us < length us
some_free [] some = absurd (omega (arith, some))
some_free (Free ∷ us) some = omega arith
some_free (Held ∷ us) some = omega (arith, some_free us (omega (arith, some)))
some_free (Staged ∷ us) some = omega (arith, some_free us (omega (arith, some)))
some_free (Dropped ∷ us) some = omega (arith, some_free us (omega (arith, some)))

-- between two bounds that are not the same there are some
pub several : (a b n : ℕ) → (a ≡ b → ⊥) → a ≤ b → n ≡ b - a → 0 < n
several a b n apart le is = elim (cases_lt a b) [ inl more ↦ omega (arith, more, is) | inr less ↦ absurd (apart (omega (arith, le, less))) ]

free_is : (u : Use) → is_free u ≡ true → u ≡ Free
free_is Free is = refl
free_is Held is = absurd cc
free_is Staged is = absurd cc
free_is Dropped is = absurd cc

pub first_is_free : (us : List Use) → 0 < how_many is_free us → use_of us (position_or_len is_free us) ≡ Free
first_is_free us some = free_is (use_of us (position_or_len is_free us)) (passes_at_first is_free us Held (some_free us some))

pub length-added : (ks : List ℕ) (flags : List Bool) → length (added ks flags) ≡ length flags
length-added [] flags = refl
length-added (k ∷ ks) flags = length-added ks (set flags k true) ∙ length-set flags k true

added_push : (ks : List ℕ) (k : ℕ) (flags : List Bool) → added (ks ++ k ∷ []) flags ≡ set (added ks flags) k true
added_push [] k flags = refl
added_push (j ∷ ks) k flags = added_push ks k (set flags j true)

-- a commit puts in those that were dropped
module _ (order places : List ℕ) (a b d : ℕ) (layout : IsLayout order places a b d) (flags : List Bool) (is : flags ≡ map is_free (uses_from a b d places)) where
  long : length flags ≡ length places
  long = ap (λ (l : List Bool). length l) is ∙ length-map (uses_from a b d places) is_free ∙ length-map places (use_at a b d)

  or_false : (c : Bool) → c ≡ (c || false)
  or_false true = refl
  or_false false = refl

  or_true : (c : Bool) → true ≡ (c || true)
  or_true true = refl
  or_true false = refl

  pub dropped_inside : (k e : ℕ) → k < length (take a order) → get_or (take a order) k e < length flags
  dropped_inside k e lt =
      let below : k < a = omega (arith, lt, length-take a order) in
      let inside : k < length order = omega (arith, lt, length-take a order) in
      omega (arith, get_or-take a order k e below, get_or_default order k e 0 inside, layout.inverse.numbers k inside, long, layout.inverse.size)

  -- after i of them
  dropped_in : (i : ℕ) → i ≤ a → (k : ℕ) → k < length places → get_or (added (take i order) flags) k false ≡ (is_free (use_at a b d (get_or places k 0)) || nat_lt (get_or places k 0) i)
  dropped_in zero le k lt =
      ap (λ (l : List Bool). get_or l k false) is
      ∙ get_or-map is_free (uses_from a b d places) k Held false (omega (arith, lt, length-map places (use_at a b d)))
      ∙ ap is_free (get_or-map (use_at a b d) places k 0 Held lt)
      ∙ or_false (is_free (use_at a b d (get_or places k 0)))
      ∙ ap (λ (c : Bool). is_free (use_at a b d (get_or places k 0)) || c) (sym (le-ltb (get_or places k 0) 0 (omega arith)))
  dropped_in (suc i) le k lt =
      (let next : suc i ≡ i + 1 = omega arith in ap (λ (n : ℕ). get_or (added (take n order) flags) k false) next)
      ∙ ap (λ (l : List ℕ). get_or (added l flags) k false) (take_more order i 0 inside)
      ∙ ap (λ (l : List Bool). get_or l k false) (added_push (take i order) (get_or order i 0) flags)
      ∙ elim (cases_eq k (get_or order i 0)) [
        | inl same ↦
            ap (λ (n : ℕ). get_or (set (added (take i order) flags) (get_or order i 0) true) n false) same
            ∙ get_or-set_same (added (take i order) flags) (get_or order i 0) true false (omega (arith, length-added (take i order) flags, long, lt, same))
            ∙ or_true (is_free (use_at a b d (get_or places k 0)))
            ∙ ap (λ (c : Bool). is_free (use_at a b d (get_or places k 0)) || c) (sym (lt-ltb (get_or places k 0) (suc i) (omega (arith, ap (λ (n : ℕ). get_or places n 0) same, layout.inverse.back i inside))))
        | inr other ↦
            get_or-set_other (added (take i order) flags) (get_or order i 0) k true false other
            ∙ dropped_in i (omega (arith, le)) k lt
            ∙ ap (λ (c : Bool). is_free (use_at a b d (get_or places k 0)) || c) (later (get_or places k 0) i
            (λ (h : get_or places k 0 ≡ i). other (sym (layout.inverse.there k (omega (arith, lt, layout.inverse.size))) ∙ ap (λ (n : ℕ). get_or order n 0) h)))
      ]
    where
      inside : i < length order
      inside = omega (arith, le, layout.first, layout.second, layout.third)

      later : (p i : ℕ) → (p ≡ i → ⊥) → nat_lt p i ≡ nat_lt p (suc i)
      later p i ne = elim (cases_lt p i) [
        | inl under ↦ lt-ltb p i under ∙ sym (lt-ltb p (suc i) (omega (arith, under)))
        | inr from ↦ elim (cases_eq p i) [
          | inl same ↦ absurd (ne same)
          | inr apart ↦ le-ltb p i from ∙ sym (le-ltb p (suc i) (after p i from apart))
        ]
      ]
        where
          after : (p i : ℕ) → i ≤ p → (p ≡ i → ⊥) → suc i ≤ p
          after p i from apart = elim (cases_lt i p) [ inl more ↦ omega (arith, more) | inr less ↦ absurd (apart (omega (arith, from, less))) ]

  free_then : (p : ℕ) → (is_free (use_at a b d p) || nat_lt p a) ≡ is_free (use_at 0 b b p)
  free_then p = by a b d p layout.first layout.second where
    by : (a b d p : ℕ) → a ≤ b → b ≤ d → (is_free (use_at a b d p) || nat_lt p a) ≡ is_free (use_at 0 b b p)
    by a b d p h k = grind (arith, nat_tests)

  pub commit_flags : added (take a order) flags ≡ map is_free (uses_from 0 b b places)
  commit_flags = ext_get_or false (added (take a order) flags) (map is_free (uses_from 0 b b places))
      (length-added (take a order) flags ∙ long ∙ sym (length-map (uses_from 0 b b places) is_free ∙ length-map places (use_at 0 b b)))
      (λ k less. let lt : k < length places = omega (arith, less, length-added (take a order) flags, long) in
      dropped_in a (omega arith) k lt ∙ free_then (get_or places k 0)
      ∙ sym (get_or-map is_free (uses_from 0 b b places) k Held false (omega (arith, lt, length-map places (use_at 0 b b))) ∙ ap is_free (get_or-map (use_at 0 b b) places k 0 Held lt)))

-- all are free at first
pub fresh_flags : (n : ℕ) (places : List ℕ) → length places ≡ n → ((k : ℕ) → k < n → get_or places k 0 < n) → replicate n true ≡ map is_free (uses_from 0 n n places)
fresh_flags n places size low = ext_get_or false (replicate n true) (map is_free (uses_from 0 n n places))
    (length-replicate n true ∙ sym (length-map (uses_from 0 n n places) is_free ∙ length-map places (use_at 0 n n) ∙ size))
    (λ k less. let lt : k < n = omega (arith, less, length-replicate n true) in
    get_or-replicate n k true false lt
    ∙ sym (get_or-map is_free (uses_from 0 n n places) k Held false (omega (arith, lt, size, length-map places (use_at 0 n n))) ∙ ap is_free (get_or-map (use_at 0 n n) places k 0 Held (omega (arith, lt, size)) ∙ free_below n (get_or places k 0) (low k lt)))) where
      free_below : (n p : ℕ) → p < n → use_at 0 n n p ≡ Free
      free_below n p lt = grind (arith, nat_tests)
