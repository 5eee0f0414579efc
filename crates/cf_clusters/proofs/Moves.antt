-- A cluster goes over a bound of the order.
use Rattle.std.proofs.Common.{◌≡◌, ◌≢◌, ℕ, zero, suc, ◌+◌, ◌-◌, ◌<◌, ◌≤◌, Bool, true, false, cond, List, [], ◌∷◌, length, get_or, set, map, refl, sym, ap, ◌∙◌, arith, eqb, inl, inr, length-set, get_or-set_same, get_or-set_other}
use Rattle.std.proofs.lemmas.Bool.{cases_Bool, cases_lt, eqb-true, eq-eqb}
use Rattle.std.proofs.lemmas.Bool.Decides.{nat_tests}
use Rattle.std.proofs.lemmas.List.{ext_get_or, get_or-map, get_or_read, length-map}
use Rattle.cf_clusters.specs.declared.uses.Use.{Use}
use Rattle.cf_clusters.specs.declared.uses.Use.TheVariants.{Free, Held, Staged, Dropped}
use Rattle.cf_clusters.specs.Roles.{how_many, is_free, is_dropped, use_of, committed}
use Rattle.cf_clusters.specs.Layout.{AreInverse, IsLayout, moved, use_at, uses_from}
use Rattle.cf_clusters.proofs.Counts.{how_many-set, free_committed, none_dropped}

-- the number at place i goes to place j, where it has use u; all others keep their use
pub one_moves : (f g : ℕ → Use) (order places : List ℕ) (i j k : ℕ) (u : Use) → AreInverse order places → k < length places → get_or places k 0 ≡ i
    → g j ≡ u → ((p : ℕ) → p < length order → p ≢ i → g (moved i j p) ≡ f p) → map g (map (moved i j) places) ≡ set (map f places) k u
one_moves f g order places i j k u inverse lt at here others =
    ext_get_or u (map g (map (moved i j) places)) (set (map f places) k u)
    (length-map (map (moved i j) places) g ∙ length-map places (moved i j) ∙ sym (length-map places f) ∙ sym (length-set (map f places) k u))
    (λ n less.
    let inside : n < length places = omega (arith, length-map (map (moved i j) places) g, length-map places (moved i j)) in
    get_or-map g (map (moved i j) places) n 0 u (omega (arith, length-map places (moved i j)))
    ∙ ap g (get_or-map (moved i j) places n 0 0 inside)
    ∙ elim (cases_Bool (eqb n k)) [
      | inl e ↦
          let same : n ≡ k = eqb-true _ _ e in
          ap (λ (p : ℕ). g (moved i j p)) (ap (λ (m : ℕ). get_or places m 0) same ∙ at) ∙ ap g (start i j) ∙ here
          ∙ sym (ap (λ (m : ℕ). get_or (set (map f places) k u) m u) same ∙ get_or-set_same (map f places) k u u (omega (arith, length-map places f)))
      | inr e ↦
          let other : n ≢ k = λ (h : n ≡ k). let z : true ≡ false = sym (eq-eqb _ _ h) ∙ e in cc in
          others (get_or places n 0) (inverse.places_in n (omega (arith, inverse.size)))
          (λ (h : get_or places n 0 ≡ i). other (sym (inverse.there n (omega (arith, inverse.size))) ∙ ap (λ (p : ℕ). get_or order p 0) (h ∙ sym at) ∙ inverse.there k (omega (arith, inverse.size))))
          ∙ sym (get_or-set_other (map f places) k n u u other ∙ get_or-map f places n 0 u inside)
    ]) where
      start : (i j : ℕ) → moved i j i ≡ j
      start i j = grind (arith, nat_tests)

-- where a number of a use stands
pub is_dropped_at : (a b d p : ℕ) → use_at a b d p ≡ Dropped → p < a
is_dropped_at a b d p e = grind (arith, nat_tests)

pub is_free_at : (a b d p : ℕ) → use_at a b d p ≡ Free → (a ≤ p) × (p < b)
is_free_at a b d p e = (low a b d p e, high a b d p e) where
  low : (a b d p : ℕ) → use_at a b d p ≡ Free → a ≤ p
  low a b d p e = grind (arith, nat_tests)

  high : (a b d p : ℕ) → use_at a b d p ≡ Free → p < b
  high a b d p e = grind (arith, nat_tests)

pub is_staged_at : (a b d p : ℕ) → use_at a b d p ≡ Staged → (b ≤ p) × (p < d)
is_staged_at a b d p e = (low a b d p e, high a b d p e) where
  low : (a b d p : ℕ) → use_at a b d p ≡ Staged → b ≤ p
  low a b d p e = grind (arith, nat_tests)

  high : (a b d p : ℕ) → use_at a b d p ≡ Staged → p < d
  high a b d p e = grind (arith, nat_tests)

pub is_held_at : (a b d p : ℕ) → use_at a b d p ≡ Held → d ≤ p
is_held_at a b d p e = grind (arith, nat_tests)

-- a use other than held is one of the list
pub inside : (us : List Use) (k : ℕ) (u : Use) → use_of us k ≡ u → (Held ≡ u → ⊥) → k < length us
inside [] k u e ne = absurd (ne e)
inside (v ∷ us) zero u e ne = omega arith
inside (v ∷ us) (suc k) u e ne = omega (arith, inside us k u e ne)

-- the use of a number is that of its place
pub place_use : (a b d k : ℕ) (places : List ℕ) → k < length places → use_of (uses_from a b d places) k ≡ use_at a b d (get_or places k 0)
place_use a b d k places lt = get_or-map (use_at a b d) places k 0 Held lt

-- the place that the code reads
pub stands_at : (a b d k i : ℕ) (places : List ℕ) (us : List Use) → uses_from a b d places ≡ us → k < length us → i ≡ get_or places k i → get_or places k 0 ≡ i
stands_at a b d k i places us view lt read = sym (get_or_read places k i (omega (arith, lt, ap (λ (v : List Use). length v) view, length-map places (use_at a b d))) read 0)

pub set_again : (us : List Use) (k : ℕ) (u v : Use) → set (set us k u) k v ≡ set us k v
set_again [] k u v = refl
set_again (w ∷ us) zero u v = refl
set_again (w ∷ us) (suc k) u v = ap (λ l. w ∷ l) (set_again us k u v)

-- what one change of use does to the two counts
counts_after : (us vs : List Use) (k n m : ℕ) (u v : Use) → k < length us → use_of us k ≡ u → vs ≡ set us k v → how_many is_free us ≡ n → how_many is_dropped us ≡ m
    → (how_many is_free vs + cond (is_free u) 1 0 ≡ n + cond (is_free v) 1 0) × (how_many is_dropped vs + cond (is_dropped u) 1 0 ≡ m + cond (is_dropped v) 1 0)
counts_after us vs k n m u v lt was now free dropped = (one is_free n free, one is_dropped m dropped) where
  one : (test : Use → Bool) (c : ℕ) → how_many test us ≡ c → how_many test vs + cond (test u) 1 0 ≡ c + cond (test v) 1 0
  one test c e = ap (λ (w : List Use). how_many test w + cond (test u) 1 0) now ∙ ap (λ (w : Use). how_many test (set us k v) + cond (test w) 1 0) (sym was)
      ∙ how_many-set test us k v Held lt ∙ ap (λ (x : ℕ). x + cond (test v) 1 0) e

module _ (order places order' places' : List ℕ) (a b d k i : ℕ) (layout : IsLayout order places a b d) (at : get_or places k 0 ≡ i)
    (inverse : AreInverse order' places') (size : length order' ≡ length order) where
  known : k < length (uses_from a b d places) → k < length places
  known lt = omega (arith, length-map places (use_at a b d))

  where_it_is : (u : Use) → use_of (uses_from a b d places) k ≡ u → k < length places → use_at a b d i ≡ u
  where_it_is u e lt = ap (use_at a b d) (sym at) ∙ sym (place_use a b d k places lt) ∙ e

  -- a free one becomes staged, over the upper bound of the free ones
  pub staged_view : use_of (uses_from a b d places) k ≡ Free → places' ≡ map (moved i (b - 1)) places → uses_from a (b - 1) d places' ≡ set (uses_from a b d places) k Staged
  staged_view is now =
      let lt = known (inside (uses_from a b d places) k Free is (λ (z : Held ≡ Free). cc)) in
      let stands = is_free_at a b d i (where_it_is Free is lt) in
      ap (map (use_at a (b - 1) d)) now
      ∙ one_moves (use_at a b d) (use_at a (b - 1) d) order places i (b - 1) k Staged layout.inverse lt at
      (new a b d i stands.0 stands.1 layout.second) (λ p _ ne. rest a b d i p stands.0 stands.1 layout.second ne) where
        new : (a b d i : ℕ) → a ≤ i → i < b → b ≤ d → use_at a (b - 1) d (b - 1) ≡ Staged
        new a b d i h k l = grind (arith, nat_tests)

        rest : (a b d i p : ℕ) → a ≤ i → i < b → b ≤ d → p ≢ i → use_at a (b - 1) d (moved i (b - 1) p) ≡ use_at a b d p
        rest a b d i p h k l ne = grind (arith, nat_tests)

  pub staged_layout : use_of (uses_from a b d places) k ≡ Free → places' ≡ map (moved i (b - 1)) places → IsLayout order' places' a (b - 1) d
  staged_layout is now =
      let low = inside (uses_from a b d places) k Free is (λ (z : Held ≡ Free). cc) in
      let stands = is_free_at a b d i (where_it_is Free is (known low)) in
      let count = counts_after (uses_from a b d places) (uses_from a (b - 1) d places') k (b - a) a Free Staged low is (staged_view is now) layout.free_count layout.dropped_count in
      record {
        inverse = inverse;
        small = omega (arith, layout.small);
        first = omega (arith, stands.0, stands.1);
        second = omega (arith, layout.second);
        third = omega (arith, layout.third);
        free_count = omega (arith, count.0, stands.0, stands.1);
        dropped_count = omega (arith, count.1);
      }

  -- a held one becomes staged
  pub unheld_view : k < length (uses_from a b d places) → use_of (uses_from a b d places) k ≡ Held → places' ≡ map (moved i d) places → uses_from a b (d + 1) places' ≡ set (uses_from a b d places) k Staged
  unheld_view low is now =
      let lt = known low in
      let stands = is_held_at a b d i (where_it_is Held is lt) in
      ap (map (use_at a b (d + 1))) now
      ∙ one_moves (use_at a b d) (use_at a b (d + 1)) order places i d k Staged layout.inverse lt at
      (new a b d layout.first layout.second) (λ p _ ne. rest a b d i p layout.first layout.second stands ne) where
        new : (a b d : ℕ) → a ≤ b → b ≤ d → use_at a b (d + 1) d ≡ Staged
        new a b d h k = grind (arith, nat_tests)

        rest : (a b d i p : ℕ) → a ≤ b → b ≤ d → d ≤ i → p ≢ i → use_at a b (d + 1) (moved i d p) ≡ use_at a b d p
        rest a b d i p h k l ne = grind (arith, nat_tests)

  pub unheld_layout : k < length (uses_from a b d places) → use_of (uses_from a b d places) k ≡ Held → places' ≡ map (moved i d) places → IsLayout order' places' a b (d + 1)
  unheld_layout low is now =
      let stands = is_held_at a b d i (where_it_is Held is (known low)) in
      let count = counts_after (uses_from a b d places) (uses_from a b (d + 1) places') k (b - a) a Held Staged low is (unheld_view low is now) layout.free_count layout.dropped_count in
      record {
        inverse = inverse;
        small = omega (arith, layout.small);
        first = layout.first;
        second = omega (arith, layout.second);
        third = omega (arith, stands, at, layout.inverse.places_in k (omega (arith, known low, layout.inverse.size)), size);
        free_count = omega (arith, count.0);
        dropped_count = omega (arith, count.1);
      }

  -- a staged one becomes free
  pub freed_view : use_of (uses_from a b d places) k ≡ Staged → places' ≡ map (moved i b) places → uses_from a (b + 1) d places' ≡ set (uses_from a b d places) k Free
  freed_view is now =
      let lt = known (inside (uses_from a b d places) k Staged is (λ (z : Held ≡ Staged). cc)) in
      let stands = is_staged_at a b d i (where_it_is Staged is lt) in
      ap (map (use_at a (b + 1) d)) now
      ∙ one_moves (use_at a b d) (use_at a (b + 1) d) order places i b k Free layout.inverse lt at
      (new a b d layout.first) (λ p _ ne. rest a b d i p layout.first stands.0 stands.1 ne) where
        new : (a b d : ℕ) → a ≤ b → use_at a (b + 1) d b ≡ Free
        new a b d h = grind (arith, nat_tests)

        rest : (a b d i p : ℕ) → a ≤ b → b ≤ i → i < d → p ≢ i → use_at a (b + 1) d (moved i b p) ≡ use_at a b d p
        rest a b d i p h k l ne = grind (arith, nat_tests)

  pub freed_layout : use_of (uses_from a b d places) k ≡ Staged → places' ≡ map (moved i b) places → IsLayout order' places' a (b + 1) d
  freed_layout is now =
      let low = inside (uses_from a b d places) k Staged is (λ (z : Held ≡ Staged). cc) in
      let stands = is_staged_at a b d i (where_it_is Staged is (known low)) in
      let count = counts_after (uses_from a b d places) (uses_from a (b + 1) d places') k (b - a) a Staged Free low is (freed_view is now) layout.free_count layout.dropped_count in
      record {
        inverse = inverse;
        small = omega (arith, layout.small);
        first = omega (arith, layout.first);
        second = omega (arith, stands.0, stands.1);
        third = omega (arith, layout.third);
        free_count = omega (arith, count.0, layout.first);
        dropped_count = omega (arith, count.1);
      }

  -- a free one becomes dropped
  pub dropped_view : use_of (uses_from a b d places) k ≡ Free → places' ≡ map (moved i a) places → uses_from (a + 1) b d places' ≡ set (uses_from a b d places) k Dropped
  dropped_view is now =
      let lt = known (inside (uses_from a b d places) k Free is (λ (z : Held ≡ Free). cc)) in
      let stands = is_free_at a b d i (where_it_is Free is lt) in
      ap (map (use_at (a + 1) b d)) now
      ∙ one_moves (use_at a b d) (use_at (a + 1) b d) order places i a k Dropped layout.inverse lt at
      (new a b d) (λ p _ ne. rest a b d i p stands.0 stands.1 ne) where
        new : (a b d : ℕ) → use_at (a + 1) b d a ≡ Dropped
        new a b d = grind (arith, nat_tests)

        rest : (a b d i p : ℕ) → a ≤ i → i < b → p ≢ i → use_at (a + 1) b d (moved i a p) ≡ use_at a b d p
        rest a b d i p h k ne = grind (arith, nat_tests)

  pub dropped_layout : use_of (uses_from a b d places) k ≡ Free → places' ≡ map (moved i a) places → IsLayout order' places' (a + 1) b d
  dropped_layout is now =
      let low = inside (uses_from a b d places) k Free is (λ (z : Held ≡ Free). cc) in
      let stands = is_free_at a b d i (where_it_is Free is (known low)) in
      let count = counts_after (uses_from a b d places) (uses_from (a + 1) b d places') k (b - a) a Free Dropped low is (dropped_view is now) layout.free_count layout.dropped_count in
      record {
        inverse = inverse;
        small = omega (arith, layout.small);
        first = omega (arith, stands.0, stands.1);
        second = layout.second;
        third = omega (arith, layout.third);
        free_count = omega (arith, count.0, stands.0, stands.1);
        dropped_count = omega (arith, count.1);
      }

-- a commit moves two bounds
pub commit_view : (order places : List ℕ) (a b d : ℕ) → IsLayout order places a b d → uses_from 0 b b places ≡ map committed (uses_from a b d places)
commit_view order places a b d layout = all places where
  dropped_low : (a b d p : ℕ) → p < a → use_at a b d p ≡ Dropped
  dropped_low a b d p h = grind (arith, nat_tests)

  free_mid : (a b d p : ℕ) → a ≤ p → p < b → use_at a b d p ≡ Free
  free_mid a b d p h k = grind (arith, nat_tests)

  staged_mid : (a b d p : ℕ) → a ≤ b → b ≤ p → p < d → use_at a b d p ≡ Staged
  staged_mid a b d p h k l = grind (arith, nat_tests)

  held_high : (a b d p : ℕ) → a ≤ b → b ≤ d → d ≤ p → use_at a b d p ≡ Held
  held_high a b d p h k l = grind (arith, nat_tests)

  one : (a b d p : ℕ) → a ≤ b → b ≤ d → use_at 0 b b p ≡ committed (use_at a b d p)
  one a b d p h k = elim (cases_lt p b) [
    | inl low ↦ free_mid 0 b b p (omega arith) low ∙ elim (cases_lt p a) [
      | inl first ↦ sym (ap committed (dropped_low a b d p first))
      | inr second ↦ sym (ap committed (free_mid a b d p second low))
    ]
    | inr high ↦ held_high 0 b b p (omega arith) (omega arith) high ∙ elim (cases_lt p d) [
      | inl third ↦ sym (ap committed (staged_mid a b d p h high third))
      | inr last ↦ sym (ap committed (held_high a b d p h k last))
    ]
  ]

  all : (ps : List ℕ) → uses_from 0 b b ps ≡ map committed (uses_from a b d ps)
  all [] = refl
  all (p ∷ ps) = ap (λ v. v ∷ uses_from 0 b b ps) (one a b d p layout.first layout.second) ∙ ap (λ v. committed (use_at a b d p) ∷ v) (all ps)

pub commit_layout : (order places : List ℕ) (a b d : ℕ) → IsLayout order places a b d → IsLayout order places 0 b b
commit_layout order places a b d layout = record {
  inverse = layout.inverse;
  small = layout.small;
  first = omega arith;
  second = omega arith;
  third = omega (arith, layout.second, layout.third);
  free_count = ap (how_many is_free) (commit_view order places a b d layout) ∙ free_committed (uses_from a b d places) ∙ omega (arith, layout.free_count, layout.dropped_count, layout.first);
  dropped_count = ap (how_many is_dropped) (commit_view order places a b d layout) ∙ none_dropped (uses_from a b d places);
}
