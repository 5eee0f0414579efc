-- The clusters at first, and those that are held then.
use Rattle.std.proofs.Common.{◌≡◌, ◌≢◌, ℕ, zero, suc, ◌+◌, ◌^◌, ◌<◌, ◌≤◌, Bool, true, false, ◌||◌, cond, List, [], ◌∷◌, length, get_or, set, map, drop, refl, sym, ap, subst, ◌∙◌, arith, eqb, inl, inr, length-set, get_or-set_same, get_or-set_other, drop-cons, add-one}
use Rattle.std.specs.List.{list_any}
use Rattle.std.specs.Prelude.{All}
use Rattle.std.proofs.lemmas.Bool.{cases_Bool, eqb-true, eq-eqb}
use Rattle.std.proofs.lemmas.Bool.Decides.{nat_tests}
use Rattle.std.proofs.lemmas.List.{ext_get_or, get_or-map, length-map}
use Rattle.cf_clusters.specs.declared.uses.Use.{Use}
use Rattle.cf_clusters.specs.declared.uses.Use.TheVariants.{Free, Held, Staged}
use Rattle.cf_clusters.specs.Roles.{how_many, is_free, is_dropped, use_of, committed, AreApart, HoldsAll, Opens}
use Rattle.cf_clusters.specs.Layout.{IsLayout, descending, use_at, uses_from}
use Rattle.cf_clusters.proofs.Moves.{inside}

pub length-descending : (n : ℕ) → length (descending n) ≡ n
length-descending zero = refl
length-descending (suc n) = omega (arith, length-descending n)

get_or-descending : (n k : ℕ) → k < n → get_or (descending n) k 0 + k + 1 ≡ n
get_or-descending zero k lt = absurd (omega arith)
get_or-descending (suc n) zero lt = omega arith
get_or-descending (suc n) (suc k) lt = omega (arith, get_or-descending n k (omega arith))

pub descends : (n : ℕ) (l : List ℕ) → length l ≡ n → ((k : ℕ) → k < n → get_or l k 0 + k + 1 ≡ n) → l ≡ descending n
descends n l long numbers = ext_get_or 0 l (descending n) (long ∙ sym (length-descending n)) (λ k less. let lt : k < n = omega (arith, less, long) in omega (arith, numbers k lt, get_or-descending n k lt))

pub descending_low : (n k : ℕ) → k < n → get_or (descending n) k 0 < n
descending_low n k lt = omega (arith, get_or-descending n k lt)

free_below : (n p : ℕ) → p < n → use_at 0 n n p ≡ Free
free_below n p lt = grind (arith, nat_tests)

all_free : (n m : ℕ) → m ≤ n → how_many is_free (uses_from 0 n n (descending m)) ≡ m
all_free n zero le = refl
all_free n (suc m) le = ap (λ (u : Use). cond (is_free u) 1 0 + how_many is_free (uses_from 0 n n (descending m))) (free_below n m (omega arith)) ∙ omega (arith, all_free n m (omega arith))

no_dropped : (n m : ℕ) → m ≤ n → how_many is_dropped (uses_from 0 n n (descending m)) ≡ 0
no_dropped n zero le = refl
no_dropped n (suc m) le = ap (λ (u : Use). cond (is_dropped u) 1 0 + how_many is_dropped (uses_from 0 n n (descending m))) (free_below n m (omega arith)) ∙ omega (arith, no_dropped n m (omega arith))

pub fresh_layout : (n : ℕ) → n < 2 ^ 32 → IsLayout (descending n) (descending n) 0 n n
fresh_layout n small = record {
  inverse = record {
    size = refl;
    numbers = λ i lt. inside_of i (below i lt);
    back = λ i lt. twice i (below i lt);
    places_in = λ i lt. inside_of i (below i lt);
    there = λ i lt. twice i (below i lt);
  };
  small = omega (arith, length-descending n);
  first = omega arith;
  second = omega arith;
  third = omega (arith, length-descending n);
  free_count = all_free n n (omega arith) ∙ omega arith;
  dropped_count = no_dropped n n (omega arith);
} where
  below : (i : ℕ) → i < length (descending n) → i < n
  below i lt = omega (arith, length-descending n)

  inside_of : (i : ℕ) → i < n → get_or (descending n) i 0 < length (descending n)
  inside_of i lt = omega (arith, length-descending n, get_or-descending n i lt)

  twice : (i : ℕ) → i < n → get_or (descending n) (get_or (descending n) i 0) 0 ≡ i
  twice i lt = omega (arith, get_or-descending n i lt, get_or-descending n (get_or (descending n) i 0) (omega (arith, get_or-descending n i lt)))

pub fresh_opens : (n : ℕ) → Opens n [] (uses_from 0 n n (descending n))
fresh_opens n = record {
  size = length-map (descending n) (use_at 0 n n) ∙ length-descending n;
  each = λ k lt. get_or-map (use_at 0 n n) (descending n) k 0 Held (omega (arith, length-descending n)) ∙ free_below n (get_or (descending n) k 0) (omega (arith, get_or-descending n k lt));
}

-- what holds of each element holds of each number that is there
listed : (P : ℕ → Type 0) (xs : List ℕ) → All P xs → (j : ℕ) → list_any (λ x. eqb x j) xs ≡ true → P j
listed P [] all j e = let z : true ≡ false = sym e in absurd_of z where
  absurd_of : true ≡ false → P j
  absurd_of z = absurd (no z) where
    no : true ≡ false → ⊥
    no z = cc
listed P (x ∷ xs) all j e = elim (cases_Bool (eqb x j)) [
  | inl same ↦ subst P (eqb-true x j same) (all 0 0 (omega arith))
  | inr other ↦ listed P xs (λ k d lt. all (suc k) d (omega arith)) j (sym (ap (λ v. v || list_any (λ x. eqb x j) xs) other) ∙ e)
]

pub next : (i : ℕ) (xs : List ℕ) → i < length xs → drop i xs ≡ get_or xs i 0 ∷ drop (i + 1) xs
next i xs h = rw add-one (drop-cons xs i 0 h)

-- the clusters of the list that are left are free, each there once; with them staged all is as it is to be
pub record IsHolding (left all : List ℕ) (old now : List Use) : Type 0 where
  pub apart : AreApart left
  pub free : (j : ℕ) → list_any (λ x. eqb x j) left ≡ true → use_of now j ≡ Free
  pub size : length now ≡ length old
  pub rest : (k : ℕ) → k < length old → cond (list_any (λ x. eqb x k) left) Staged (use_of now k) ≡ cond (list_any (λ x. eqb x k) all) Staged (use_of old k)

pub holding_starts : (xs : List ℕ) (old : List Use) → AreApart xs → All (λ k. use_of old k ≡ Free) xs → IsHolding xs xs old old
holding_starts xs old apart free = record { apart = apart; free = listed (λ k. use_of old k ≡ Free) xs free; size = refl; rest = λ k lt. refl }

there_first : (x : ℕ) (xs : List ℕ) → list_any (λ y. eqb y x) (x ∷ xs) ≡ true
there_first x xs = ap (λ v. v || list_any (λ y. eqb y x) xs) (eq-eqb x x refl)

pub holding_next : (left rest all : List ℕ) (old now : List Use) (x : ℕ) → IsHolding left all old now → left ≡ x ∷ rest → use_of now x ≡ Free
holding_next left rest all old now x h e = h.free x (ap (λ (l : List ℕ). list_any (λ y. eqb y x) l) e ∙ there_first x rest)

pub holding_more : (left rest all : List ℕ) (old now new : List Use) (x : ℕ) → IsHolding left all old now → left ≡ x ∷ rest → new ≡ set now x Staged → IsHolding rest all old new
holding_more left rest all old now new x h e now_is =
    subst (λ (us : List Use). IsHolding rest all old us) (sym now_is) (more (subst (λ (l : List ℕ). IsHolding l all old now) e h)) where
      more : IsHolding (x ∷ rest) all old now → IsHolding rest all old (set now x Staged)
      more h = record {
        apart = h.apart.1;
        free = λ j there. get_or-set_other now x j Staged Held (other j there) ∙ h.free j (ap (λ v. eqb x j || v) there ∙ or_true (eqb x j));
        size = length-set now x Staged ∙ h.size;
        rest = λ k lt. elim (cases_Bool (eqb x k)) [
          | inl same ↦ at_same k (eqb-true x k same) ∙ h.rest k lt
          | inr apart ↦ at_other k apart ∙ h.rest k lt
        ];
      } where
        or_true : (v : Bool) → (v || true) ≡ true
        or_true true = refl
        or_true false = refl

        other : (j : ℕ) → list_any (λ y. eqb y j) rest ≡ true → j ≢ x
        other j there e = let z : true ≡ false = sym there ∙ ap (λ (n : ℕ). list_any (λ y. eqb y n) rest) e ∙ h.apart.0 in cc

        low : x < length now
        low = inside now x Free (h.free x (there_first x rest)) (λ (z : Held ≡ Free). cc)

        both_staged : (b : Bool) → cond b Staged Staged ≡ Staged
        both_staged true = refl
        both_staged false = refl

        at_same : (k : ℕ) → x ≡ k → cond (list_any (λ y. eqb y k) rest) Staged (use_of (set now x Staged) k) ≡ cond (list_any (λ y. eqb y k) (x ∷ rest)) Staged (use_of now k)
        at_same k same = subst (λ (n : ℕ). cond (list_any (λ y. eqb y n) rest) Staged (use_of (set now x Staged) n) ≡ cond (list_any (λ y. eqb y n) (x ∷ rest)) Staged (use_of now n)) same
            (ap (λ (u : Use). cond (list_any (λ y. eqb y x) rest) Staged u) (get_or-set_same now x Staged Held low) ∙ both_staged (list_any (λ y. eqb y x) rest)
            ∙ sym (ap (λ (b : Bool). cond b Staged (use_of now x)) (there_first x rest)))

        at_other : (k : ℕ) → eqb x k ≡ false → cond (list_any (λ y. eqb y k) rest) Staged (use_of (set now x Staged) k) ≡ cond (list_any (λ y. eqb y k) (x ∷ rest)) Staged (use_of now k)
        at_other k apart =
            ap (λ (u : Use). cond (list_any (λ y. eqb y k) rest) Staged u) (get_or-set_other now x k Staged Held (λ (e : k ≡ x). let z : true ≡ false = sym (eq-eqb x k (sym e)) ∙ apart in cc))
            ∙ sym (ap (λ (b : Bool). cond (b || list_any (λ y. eqb y k) rest) Staged (use_of now k)) apart)

pub holding_ends : (all : List ℕ) (old now : List Use) → IsHolding [] all old now → HoldsAll all old now
holding_ends all old now h = record { size = h.size; each = h.rest }

pub opened : (n : ℕ) (held : List ℕ) (first second third : List Use) → Opens n [] first → HoldsAll held first second → third ≡ map committed second → Opens n held third
opened n held first second third opens holds is = subst (λ (us : List Use). Opens n held us) (sym is) (record {
  size = length-map second committed ∙ holds.size ∙ opens.size;
  each = λ k lt. get_or-map committed second k Held Held (omega (arith, holds.size, opens.size)) ∙ ap committed (holds.each k (omega (arith, opens.size)))
      ∙ ap (λ (u : Use). committed (cond (list_any (λ j. eqb j k) held) Staged u)) (opens.each k lt) ∙ both (list_any (λ j. eqb j k) held);
}) where
  both : (b : Bool) → committed (cond b Staged Free) ≡ cond b Held Free
  both true = refl
  both false = refl

pub held_free : (n : ℕ) (held : List ℕ) (first : List Use) → Opens n [] first → All (λ k. k < n) held → All (λ k. use_of first k ≡ Free) held
held_free n held first opens all i d lt = opens.each (get_or held i d) (all i d lt)
